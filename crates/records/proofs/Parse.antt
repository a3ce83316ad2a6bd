-- The laws of the questions that the records are put to. Assumes nothing.
use Prim.Native.Nat.{ℕ, ◌+◌, ◌-◌, ◌<◌, ◌≤◌}
use native.Mathlib.Numerals.{add-one}
use native.Mathlib.Omega.{arith}
use mathlib.Core.Path.{◌≡◌, refl}
use mathlib.Core.Bool.{Bool, true, false, ◌&&◌}
use mathlib.Core.List.{List}
use borrow.Author.Tests.{leb-true, eqb-true}
use lib.ListN.{length, get_or, drop}
use lib.Seq.{drop-cons}
use lib.Dec.{leb, eqb}
use denote.Enum.Declared.{tag_of}
use Rattle.std.specs.Prelude.{Ok, Err}
use Rattle.std.proofs.lemmas.Bool.Decides.{nat_tests}
use Rattle.little_endian.specs.Numbers.{u16_at, u32_at}
use Rattle.std.proofs.lemmas.Bool.{and_parts}
use Rattle.questions.specs.Check.{Checked, asked, ◌then◌, answer_of}
use Rattle.questions.proofs.Accepted.{then_accepted, asked_accepted}
use Rattle.questions.specs.declared.Question.{Question}
use Rattle.questions.specs.declared.Question.TheVariants.{Fits, Kind as OtherKind, Body}
use Rattle.questions.specs.declared.Refusal.{Refusal}
use Rattle.records.specs.Records.{operation_of_number, check_operation, operation_answer, header_bytes, kind_number, record_fits, check_record, body_bytes, check_bodies}
use Rattle.records.specs.declared.Operation.{Operation}
use Rattle.records.specs.declared.Kind.{Kind}
use Rattle.records.specs.declared.Kind.TheVariants.{Operation as OperationKind, Counts as CountsKind, Positions, Halfedges, Tangents, Normals, Fixed}
use Rattle.records.specs.contracts.Kind.{the_type}

-- the number of a kind, as the code casts it
pub number_is : (kind : Kind) → tag_of the_type kind + 1 ≡ kind_number kind
number_is OperationKind = refl
number_is CountsKind = refl
number_is Positions = refl
number_is Halfedges = refl
number_is Tangents = refl
number_is Normals = refl
number_is Fixed = refl

-- ---- one record

-- a question in two parts
asked_both : (q : Question) (place : ℕ) (a b : Bool) → asked q place (a && b) ≡ (asked q place a then asked q place b)
asked_both q place true b = refl
asked_both q place false true = refl
asked_both q place false false = refl

module _ (s : List ℕ) (at : ℕ) (kind : Kind) (bytes : ℕ) (h : at ≤ length s) where
  fits : (leb header_bytes (length s - at) && leb (u32_at s at) (length s - at - header_bytes)) ≡ record_fits s at
  unfolding record_fits
  fits = grind (arith, nat_tests)

  -- the questions one by one
  pub steps : check_record s at kind bytes
      ≡ (asked Fits at (leb header_bytes (length s - at))
      then asked Fits at (leb (u32_at s at) (length s - at - header_bytes))
      then asked OtherKind at (eqb (u16_at s (at + 4)) (tag_of the_type kind + 1))
      then asked Body at (eqb (u32_at s at) bytes))
  unfolding check_record
  steps = rw (← fits, asked_both, number_is kind)

-- a record that passes lies within the input
pub within : (s : List ℕ) (at : ℕ) (kind : Kind) (bytes : ℕ) → check_record s at kind bytes ≡ Ok tt → at + header_bytes + bytes ≤ length s
unfolding check_record record_fits
within s at kind bytes e =
    let a = then_accepted _ (asked Body at (eqb (u32_at s at) bytes)) e in
    let b = then_accepted _ (asked OtherKind at (eqb (u16_at s (at + 4)) (kind_number kind))) a.0 in
    let fit = and_parts (leb (at + header_bytes) (length s)) (leb (at + header_bytes + u32_at s at) (length s)) (asked_accepted Fits at _ b.0) in
    let l = leb-true (at + header_bytes + u32_at s at) (length s) fit.1 in
    let same = eqb-true (u32_at s at) bytes (asked_accepted Body at _ a.1) in
    omega arith

-- ---- the records in order

module _ (p n i : ℕ) (kinds : List Kind) (d : Kind) (h : i < length kinds) where
  pub next_body : (s : List ℕ) (place bytes : ℕ) → bytes ≡ body_bytes p n (get_or kinds i d) →
      check_bodies s p n (drop i kinds) place ≡ (check_record s place (get_or kinds i d) bytes then check_bodies s p n (drop (i + 1) kinds) (place + (header_bytes + bytes)))
  unfolding check_bodies
  next_body s place bytes b = rw (drop-cons kinds i d h, add-one, b)

-- ---- an answer that the questions leave

pub answer_ok : {A : Type 0} (checked : Checked) (a b : A) → answer_of checked a ≡ Ok b → (checked ≡ Ok tt) × (b ≡ a)
answer_ok (Ok tt) a b e = (refl, cc)
answer_ok (Err r) a b e = cc

pub answer_err : {A : Type 0} (checked : Checked) (a : A) (r : Refusal) → answer_of checked a ≡ Err r → checked ≡ Err r
answer_err (Ok tt) a r e = cc
answer_err (Err q) a r e = cc

pub known : (k : ℕ) (o : Operation) → operation_answer k ≡ Ok o → (check_operation k ≡ Ok tt) × (o ≡ operation_of_number k)
unfolding operation_answer
known k o e = answer_ok (check_operation k) (operation_of_number k) o e

pub unknown : (k : ℕ) (r : Refusal) → operation_answer k ≡ Err r → check_operation k ≡ Err r
unfolding operation_answer
unknown k r e = answer_err (check_operation k) (operation_of_number k) r e
