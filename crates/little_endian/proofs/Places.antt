-- What a filled list holds at its places, and how one is filled further. Assumes nothing.
use Prim.Native.Nat.{ℕ, ◌+◌, ◌-◌, ◌<◌, ◌≤◌}
use native.Mathlib.Decide.{dec_lt}
use native.Mathlib.Omega.{arith}
use mathlib.Core.Path.{◌≡◌, sym, ap, ◌∙◌}
use mathlib.Core.List.{List, ◌++◌}
use lib.ListN.{length, drop, get_or, length-append, length-drop}
use Rattle.std.proofs.lemmas.List.{ext_get_or, get_or-append_right, get_or_append_left, get_or-drop}
use Rattle.std.proofs.lemmas.Slice.{drop-append-drop}
use Rattle.little_endian.specs.Filled.{items, filled}
use Rattle.little_endian.proofs.Filled.{items_length, items_at}

module _ {A : Type 0} (f : ℕ → A) where
  -- a list that was filled up to k is filled up to m
  pub filled_more : (k m : ℕ) (xs ys zs : List A) → k ≤ m → ys ≡ filled f k xs → zs ≡ filled f m ys → zs ≡ filled f m xs
  unfolding filled
  filled_more k m xs ys zs h p q =
      let e : drop m (items f k ++ drop k xs) ≡ drop m xs = drop-append-drop k xs (items f k) m h (items_length f k) in
      q ∙ rw p (ap (λ (l : List A). items f m ++ l) e)

  -- a list that was filled is itself filled
  pub filled_self : (k : ℕ) (xs ys : List A) → ys ≡ filled f k xs → ys ≡ filled f k ys
  unfolding filled
  filled_self k xs ys p =
      let e : drop k (items f k ++ drop k xs) ≡ drop k xs = drop-append-drop k xs (items f k) k (omega arith) (items_length f k) in
      p ∙ ap (λ (l : List A). items f k ++ l) (sym e ∙ ap (drop k) (sym p))

  pub filled_length : (count : ℕ) (xs : List A) → count ≤ length xs → length (filled f count xs) ≡ length xs
  unfolding filled
  filled_length count xs h = simp (length-append, length-drop, items_length f count) (omega arith)

  -- a filled list by its places
  pub filled_from_places : (count : ℕ) (xs ys : List A) (d : A) → length ys ≡ length xs → count ≤ length xs → ((i : ℕ) → i < count → get_or ys i d ≡ f i) → ((i : ℕ) → count ≤ i → get_or ys i d ≡ get_or xs i d) → ys ≡ filled f count xs
  unfolding filled
  filled_from_places count xs ys d l h front rest = ext_get_or d ys (filled f count xs) (l ∙ sym (filled_length count xs h)) (λ i k. go i (dec_lt i count))
    where
      go : (i : ℕ) → Dec (i < count) → get_or ys i d ≡ get_or (filled f count xs) i d
      go i (yes k) = front i k ∙ sym (get_or_append_left (items f count) (drop count xs) d i (omega (arith, items_length f count)) ∙ items_at f count i d k)
      go i (no k) =
          let e : count + (i - count) ≡ i = omega arith in
          let m : count ≤ i = omega arith in
          rest i m ∙ sym (get_or-append_right (items f count) (drop count xs) count i d (items_length f count) m ∙ get_or-drop count xs (i - count) d ∙ ap (λ (j : ℕ). get_or xs j d) e)
