-- What was read decides the answer: it is all of the input, or longer than the program takes. Assumes nothing.
use Rattle.std.proofs.Common.{◌≡◌, ℕ, ◌≤◌, List, ◌++◌, [], length, IfSome, OnOk, Result, Ok, Err, None, Some, sym, ap, ◌∙◌, subst, arith, inl, inr, length-append, append-nil}
use Rattle.std.proofs.lemmas.Bool.{cases_lt}
use Rattle.std.specs.declared.option.Option.{Option}
use Rattle.std.specs.Io.KnownBytes.{Consumes, Appends, IsAtEnd}
use Rattle.records.specs.Records.{max_input}
use Rattle.program.specs.Program.{output_of}
use Rattle.program.proofs.Rooms.{too_long}

module _ (bs xs ys : List ℕ) (split : xs ≡ bs ++ ys) (end : length bs ≤ max_input → ys ≡ []) where
  decided : output_of bs ≡ output_of xs
  decided =
      elim (cases_lt max_input (length bs)) [
        | inl long ↦ too_long bs xs long (let l = ap length split ∙ length-append bs ys in omega arith)
        | inr short ↦ ap output_of (sym (split ∙ ap (λ l. bs ++ l) (end short) ∙ append-nil bs))
      ]

-- a and b are what the reader had and has, c and d what the writer held and holds
read_decides : (a b c d : Option (List ℕ)) (bs : List ℕ) → Consumes a b bs → (length bs ≤ max_input → IsAtEnd b) → Appends c d (output_of bs) →
    IfSome a (λ xs. Appends c d (output_of xs))
read_decides None b c d bs p end w = tt
read_decides (Some xs) None c d bs p end w = absurd p
read_decides (Some xs) (Some ys) c d bs p end w = subst (Appends c d) (decided bs xs ys p end) w

pub read_answered : {E : Type 0} (a b c d : Option (List ℕ)) (bs : List ℕ) (r : Result (Unit {0}) E) → Consumes a b bs → (length bs ≤ max_input → IsAtEnd b) →
    OnOk r (Appends c d (output_of bs)) → OnOk r (IfSome a (λ xs. Appends c d (output_of xs)))
read_answered a b c d bs (Ok x) p end w = read_decides a b c d bs p end w
read_answered a b c d bs (Err e) p end w = tt
