-- Laws of folds that count on their way: what they leave is the fold without the count, and bounds of the count. Assumes nothing.
use Prim.Native.Nat.{ℕ, zero, suc, ◌+◌, ◌≤◌, ◌<◌}
use native.Mathlib.Nat.{le_refl}
use native.Mathlib.Omega.{arith}
use mathlib.Core.Path.{◌≡◌, refl, ap}
use mathlib.Core.List.{List, [], ◌∷◌, foldl}
use lib.ListN.{length}
use Rattle.common.specs.Fold.{fold_to}
use Rattle.common.specs.Count.{sum}
use Rattle.common.specs.Counted.{Counted, count_step}

module _ {S : Type 0} (step : S → ℕ → S) (more : S → ℕ → ℕ) where
  -- ---- the state

  pub counted_foldl : (c : Counted S) (xs : List ℕ) → (foldl (count_step step more) c xs).state ≡ foldl step c.state xs
  unfolding count_step
  counted_foldl c [] = refl
  counted_foldl c (x ∷ xs) = counted_foldl (count_step step more c x) xs

  pub counted_fold_to : (c : Counted S) (n : ℕ) → (fold_to (count_step step more) c n).state ≡ fold_to step c.state n
  unfolding fold_to count_step
  counted_fold_to c zero = refl
  counted_fold_to c (suc n) = ap (λ (s : S). step s n) (counted_fold_to c n)

  -- ---- the count of a fold along a list

  -- it only grows
  pub counted_grows : (c : Counted S) (xs : List ℕ) → c.count ≤ (foldl (count_step step more) c xs).count
  unfolding count_step
  counted_grows c [] = le_refl c.count
  counted_grows c (x ∷ xs) = omega (arith, counted_grows (count_step step more c x) xs)

  -- steps that add at most 1 each
  pub counted_length : ((s : S) (x : ℕ) → more s x ≤ 1) → (c : Counted S) (xs : List ℕ) → (foldl (count_step step more) c xs).count ≤ c.count + length xs
  unfolding count_step
  counted_length one c [] = omega arith
  counted_length one c (x ∷ xs) = omega (arith, counted_length one (count_step step more c x) xs, one c.state x)

  -- ---- the count of a fold over the numbers below n

  -- a bound for each step
  pub counted_sum : (b : ℕ → ℕ) (n : ℕ) → ((s : S) (x : ℕ) → x < n → more s x ≤ b x) → (c : Counted S) → (fold_to (count_step step more) c n).count ≤ c.count + sum n b
  unfolding fold_to count_step sum
  counted_sum b zero bound c = omega arith
  counted_sum b (suc n) bound c =
      omega (arith, counted_sum b n (λ s x l. bound s x (omega arith)) c, bound (fold_to (count_step step more) c n).state n (le_refl (suc n)))
