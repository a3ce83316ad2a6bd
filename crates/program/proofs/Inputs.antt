-- The lists that were read are those of the input, and what is rendered of its operation are the program's lines. Assumes nothing.
use Prim.Native.Nat.{ℕ, ◌*◌, ◌≤◌}
use native.Mathlib.Omega.{arith}
use mathlib.Core.Path.{◌≡◌, refl, sym, ap, ◌∙◌}
use mathlib.Core.List.{List, ◌++◌}
use lib.ListN.{length, take, drop}
use lib.Seq.{take_at, drop_at}
use lib.Ieee.{Float}
use Rattle.little_endian.specs.Filled.{items, filled}
use Rattle.little_endian.proofs.Filled.{items_length}
use Rattle.little_endian.specs.Numbers.{f64_item}
use Rattle.mesh.specs.Mesh.{as_halfedges}
use Rattle.records.specs.Records.{max_input, mesh_kinds, records_length, body_at, parse_input}
use Rattle.records.specs.Lists.{Lists, if_spread, read_answer, read_lists}
use Rattle.records.specs.declared.Operation.{Operation}
use Rattle.records.specs.declared.Operation.TheVariants.{Straighten, Spread, Check}
use Rattle.records.specs.declared.Kind.TheVariants.{Tangents}
use Rattle.records.specs.declared.Input.{Input}
use Rattle.records.proofs.Accepted.{never_short, counts_bound}
use Rattle.std.specs.Prelude.{Result, Ok, Err}
use Rattle.questions.specs.declared.Refusal.{Refusal}
use Rattle.program.specs.Lines.Lines.{lines_of, printed, rendered}
use Rattle.program.proofs.LinesLaws.Whole.{whole}
use Rattle.program.specs.declared.lines.Output.{Output}
use Rattle.program.specs.Operations.Operations.{operation_lines, operation_tangents, operation_scratch, Shows}
use Rattle.program.specs.Program.{output_of, halfedges_of, positions_of, tangents_of, normals_of, fixed_of, positions_after, halfedges_after, normals_after, fixed_after, tangents_after, scratch_after, when_spreading, tangent_room, flag_room, output_room, Room}

-- what is rendered of an output that shows the program's lines, where there is room
pub renders : (s : List ℕ) (o : Result Output Refusal) (T : List Float) (out : ℕ) → tangent_room ≤ length T → output_room ≤ out → Shows (output_of s) flag_room o T →
    rendered (printed o) T out ≡ output_of s
renders s o T out t room e = whole (printed o) T out (omega (arith, e.halfedges_few)) (omega (arith, e.halfedges_few)) ∙ e.shown

-- ---- the lists of an accepted input

-- the front of a filled list
taken : {A : Type 0} (f : ℕ → A) (k : ℕ) (xs : List A) → take k (filled f k xs) ≡ items f k
unfolding filled
taken f k xs = take_at (items f k) (drop k xs) k (items_length f k)

dropped : {A : Type 0} (f : ℕ → A) (k : ℕ) (xs : List A) → drop k (filled f k xs) ≡ drop k xs
unfolding filled
dropped f k xs = drop_at (items f k) (drop k xs) k (items_length f k)

-- point normals and flags are spreading's alone: what the others make does not depend on them
pub only_spread : {A : Type 0} (o : Operation) (f : Operation → List Float → List ℕ → A) (N N' : List Float) (F F' : List ℕ) →
    f Straighten N F ≡ f Straighten N' F' → f Check N F ≡ f Check N' F' → (o ≡ Spread → (N ≡ N') × (F ≡ F')) → f o N F ≡ f o N' F'
only_spread Straighten f N N' F F' a b h = a
only_spread Spread f N N' F F' a b h = rw ((h refl).0, (h refl).1)
only_spread Check f N N' F F' a b h = b

spread_filled : {A : Type 0} (f : ℕ → A) (o : Operation) (k : ℕ) (xs : List A) → filled f (if_spread o k) xs ≡ when_spreading o (items f k ++ drop k xs) xs
unfolding filled items
spread_filled f Straighten k xs = refl
spread_filled f Spread k xs = refl
spread_filled f Check k xs = refl

-- r is the answer to reading s into the lists L, which have room and become L'
pub record Reading (s : List ℕ) (L L' : Lists) (r : Result Input Refusal) (current desired : ℕ) : Type 0 where
  pub answer : r ≡ read_answer s L
  pub lists : L' ≡ read_lists r s L
  pub room : Room (length L.positions) (length L.halfedges) (length L.tangents) (length L.normals) (length L.fixed) current desired

module _ {s : List ℕ} {L L' : Lists} {r : Result Input Refusal} {current desired : ℕ} (w : Reading s L L' r current desired) where
  parsed : (q : Result Input Refusal) → r ≡ q → parse_input s ≡ q
  parsed q e = sym (never_short s L w.room.positions_in w.room.halfedges_in w.room.tangents_in w.room.normals_in w.room.fixed_in) ∙ sym w.answer ∙ e

  -- the lists that only the reading writes
  pub read_left : (q : Result Input Refusal) → r ≡ q →
      (L'.positions ≡ positions_after s L.positions)
      × (L'.halfedges ≡ halfedges_after s L.halfedges)
      × (L'.normals ≡ normals_after s L.normals)
      × (L'.fixed ≡ fixed_after s L.fixed)
  unfolding read_lists filled positions_after halfedges_after normals_after fixed_after
  read_left (Err refusal) e = rw (w.lists, parsed _ e, e) (refl, refl, refl, refl)
  read_left (Ok i) e =
      rw (w.lists, parsed _ e, e) (refl, refl, spread_filled _ i.operation (3 * i.counts.points) _, spread_filled _ i.operation i.counts.halfedges _)

  module _ (refusal : Refusal) (e : r ≡ Err refusal) where
    -- a refusal is printed
    pub refusal_shows : (T : List Float) → Shows (output_of s) flag_room (Err refusal) T
    unfolding output_of lines_of
    refusal_shows T = record { shown = rw (parsed _ e); halfedges_few = omega arith }

    -- and leaves the tangents and the scratch lists as lent
    pub tangents_as_lent : L'.tangents ≡ tangents_after s L.tangents
    unfolding read_lists tangents_after
    tangents_as_lent = rw (w.lists, parsed _ e, e)

    pub scratch_as_lent : (lent : List Float) → lent ≡ scratch_after s lent
    unfolding scratch_after
    scratch_as_lent lent = rw (parsed _ e)

  module _ (o : Operation) (p n : ℕ) (e : r ≡ Ok (record { operation = o; counts = record { points = p; halfedges = n } })) where
    lists : L' ≡ read_lists (Ok (record { operation = o; counts = record { points = p; halfedges = n } })) s L
    lists = w.lists ∙ ap (λ (q : Result Input Refusal). read_lists q s L) e

    pub bound : records_length p n mesh_kinds ≤ max_input
    bound = counts_bound s _ (parsed _ e)

    positions_read : take (3 * p) L'.positions ≡ positions_of s p n
    unfolding read_lists
    positions_read = ap (λ (q : Lists). take (3 * p) q.positions) lists ∙ taken _ _ _

    halfedges_read : take (4 * n) L'.halfedges ≡ halfedges_of s p n
    unfolding read_lists
    halfedges_read = ap (λ (q : Lists). take (4 * n) q.halfedges) lists ∙ taken _ _ _

    tangents_read : take (4 * n) L'.tangents ≡ tangents_of s p n
    unfolding read_lists
    tangents_read = ap (λ (q : Lists). take (4 * n) q.tangents) lists ∙ taken _ _ _

    further_tangents : drop (4 * n) L'.tangents ≡ drop (4 * n) L.tangents
    unfolding read_lists
    further_tangents = ap (λ (q : Lists). drop (4 * n) q.tangents) lists ∙ dropped (f64_item s (body_at p n Tangents)) (4 * n) L.tangents

    spread_read : o ≡ Spread → (take (3 * p) L'.normals ≡ normals_of s p n) × (take n L'.fixed ≡ fixed_of s p n)
    unfolding read_lists
    spread_read d = (
      ap (λ (q : Lists). take (3 * p) q.normals) lists ∙ rw d (taken _ (3 * p) _),
      ap (λ (q : Lists). take n q.fixed) lists ∙ rw d (taken _ n _),
    )

    -- what the operation prints of the lists that were read is printed
    pub operation_shows : (output : Result Output Refusal) (T : List Float) →
        Shows (operation_lines o (as_halfedges (take (4 * n) L'.halfedges)) (take (3 * p) L'.positions) (take (3 * p) L'.normals) (take n L'.fixed) (take (4 * n) L'.tangents) n p) n output T →
        Shows (output_of s) flag_room output T
    unfolding output_of
    operation_shows output T h =
        record {
          shown =
              h.shown
              ∙ rw (parsed _ e, halfedges_read, positions_read, tangents_read)
              (only_spread o (λ q N F. operation_lines q (as_halfedges (halfedges_of s p n)) (positions_of s p n) N F (tangents_of s p n) n p) _ (normals_of s p n) _ (fixed_of s p n) refl refl spread_read);
          halfedges_few = omega (arith, bound, h.halfedges_few);
        }

    -- and what it leaves in the tangents and the scratch lists is left
    pub tangents_left : (T : List Float) →
        T ≡ operation_tangents o (as_halfedges (take (4 * n) L'.halfedges)) (take (3 * p) L'.positions) (take (3 * p) L'.normals) (take n L'.fixed) (take (4 * n) L'.tangents) n p ++ drop (4 * n) L'.tangents →
        T ≡ tangents_after s L.tangents
    unfolding tangents_after
    tangents_left T h =
        h
        ∙ rw (parsed _ e, halfedges_read, positions_read, tangents_read, further_tangents)
        (only_spread o (λ q N F. operation_tangents q (as_halfedges (halfedges_of s p n)) (positions_of s p n) N F (tangents_of s p n) n p ++ drop (4 * n) L.tangents) _ (normals_of s p n) _ (fixed_of s p n) refl refl spread_read)

    pub scratch_left : (left lent : List Float) →
        left ≡ operation_scratch o (as_halfedges (take (4 * n) L'.halfedges)) (take (3 * p) L'.positions) (take (3 * p) L'.normals) (take n L'.fixed) (take (4 * n) L'.tangents) n p lent →
        left ≡ scratch_after s lent
    unfolding scratch_after
    scratch_left left lent h =
        h
        ∙ rw (parsed _ e, halfedges_read, positions_read, tangents_read)
        (only_spread o (λ q N F. operation_scratch q (as_halfedges (halfedges_of s p n)) (positions_of s p n) N F (tangents_of s p n) n p lent) _ (normals_of s p n) _ (fixed_of s p n) refl refl spread_read)
