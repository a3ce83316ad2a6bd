-- A list that is written from the front: k items stand before what is left of the list as it was lent. And the numbers below n, one more. Assumes nothing.
use Prim.Native.Nat.{ℕ, suc, ◌+◌, ◌<◌, ◌≤◌}
use native.Mathlib.Numerals.{add-one, unary_clauses}
use native.Mathlib.Omega.{arith}
use mathlib.Core.Path.{◌≡◌, ap, ◌∙◌}
use mathlib.Core.List.{List, [], ◌∷◌, ◌++◌, append_assoc}
use lib.ListN.{length, drop, set, get_or, length-append}
use lib.Seq.{drop-cons, set_at}
use Rattle.std.specs.List.{range_with_len}
use Rattle.std.proofs.iter.Rest.{range_with_len_last}

module _ {A : Type 0} (front xs : List A) (k : ℕ) (l : length front ≡ k) where
  -- one item more
  pub front_next : (x : A) → k < length xs → set (front ++ drop k xs) k x ≡ (front ++ x ∷ []) ++ drop (k + 1) xs
  front_next x h = rw (drop-cons xs k x h) (set_at front (get_or xs k x) (drop (suc k) xs) x k l ∙ rw (add-one, append_assoc))

module _ {A : Type 0} (front xs : List A) (k : ℕ) (l : length front ≡ k) where
  -- two, one after the other
  pub front_two : (x y : A) → k + 2 ≤ length xs → set (set (front ++ drop k xs) k x) (k + 1) y ≡ (front ++ x ∷ y ∷ []) ++ drop (k + 1 + 1) xs
  front_two x y h =
      ap (λ r. set r (k + 1) y) (front_next front xs k l x (omega arith))
      ∙ front_next (front ++ x ∷ []) xs (k + 1) (omega (arith, length-append front (x ∷ []))) y (omega arith)
      ∙ ap (λ r. r ++ drop (k + 1 + 1) xs) (append_assoc front (x ∷ []) (y ∷ []))

  -- and three
  pub front_three : (x y z : A) → k + 3 ≤ length xs → set (set (set (front ++ drop k xs) k x) (k + 1) y) (k + 2) z ≡ (front ++ x ∷ y ∷ z ∷ []) ++ drop (k + 3) xs
  front_three x y z h =
      let two : k + 1 + 1 ≡ k + 2 = omega arith in
      let three : k + 2 + 1 ≡ k + 3 = omega arith in
      ap (λ r. set r (k + 2) z) (front_two x y (omega arith) ∙ ap (λ j. (front ++ x ∷ y ∷ []) ++ drop j xs) two)
      ∙ front_next (front ++ x ∷ y ∷ []) xs (k + 2) (omega (arith, length-append front (x ∷ y ∷ []))) z (omega arith)
      ∙ ap (λ j. ((front ++ x ∷ y ∷ []) ++ z ∷ []) ++ drop j xs) three
      ∙ ap (λ r. r ++ drop (k + 3) xs) (append_assoc front (x ∷ y ∷ []) (z ∷ []))

pub range_next : (n : ℕ) → range_with_len 0 (suc n) ≡ range_with_len 0 n ++ n ∷ []
range_next n = simp unary_clauses at (range_with_len_last 0 (suc n) (omega arith))
