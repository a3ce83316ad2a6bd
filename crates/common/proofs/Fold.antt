-- The laws of a loop over the numbers below n. Assumes nothing.
use Prim.Native.Nat.{ℕ, zero, suc, ◌+◌, ◌<◌, ◌≤◌}
use native.Mathlib.Numerals.{add-one}
use native.Mathlib.Omega.{arith}
use mathlib.Core.Path.{◌≡◌, refl, sym, ap, ◌∙◌}
use Rattle.common.specs.Fold.{fold_to}

module _ {S : Type 0} (step : S → ℕ → S) (s : S) where
  pub fold_none : fold_to step s 0 ≡ s
  unfolding fold_to
  fold_none = refl

  -- one turn more, at the code's `k + 1`
  pub fold_next : (k : ℕ) → fold_to step s (k + 1) ≡ step (fold_to step s k) k
  unfolding fold_to
  fold_next k = rw (add-one k)

  -- the same of what a loop has before and after a turn
  pub fold_turn : (u w : S) (k : ℕ) → u ≡ fold_to step s k → w ≡ step u k → w ≡ fold_to step s (k + 1)
  fold_turn u w k p q = q ∙ rw p (sym (fold_next k))

  -- what each turn keeps, the loop keeps
  pub fold_keeps : (P : S → Type 0) (n : ℕ) → ((t : S) (k : ℕ) → k < n → P t → P (step t k)) → P s → (k : ℕ) → k ≤ n → P (fold_to step s k)
  unfolding fold_to
  fold_keeps P n f p zero h = p
  fold_keeps P n f p (suc k) h = f (fold_to step s k) k h (fold_keeps P n f p k (let z : k ≤ n = omega arith in z))

-- two bodies that do the same
pub fold_same : {S : Type 0} (f g : S → ℕ → S) (s : S) (n : ℕ) → ((t : S) (k : ℕ) → k < n → f t k ≡ g t k) → fold_to f s n ≡ fold_to g s n
unfolding fold_to
fold_same f g s zero h = refl
fold_same f g s (suc n) h =
    h (fold_to f s n) n (omega arith) ∙ ap (λ t. g t n) (fold_same f g s n (λ t k l. h t k (omega arith)))

-- the first turn apart
pub fold_first : {S : Type 0} (step : S → ℕ → S) (s : S) (k : ℕ) → fold_to step s (suc k) ≡ fold_to (λ t i. step t (suc i)) (step s 0) k
unfolding fold_to
fold_first step s zero = refl
fold_first step s (suc k) = ap (λ t. step t (suc k)) (fold_first step s k)
