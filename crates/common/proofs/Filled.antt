-- What a filled list holds. Assumes nothing.
use Prim.Native.Nat.{ℕ, ◌<◌}
use native.Mathlib.Omega.{arith}
use mathlib.Core.Path.{◌≡◌, ap, ◌∙◌}
use mathlib.Core.List.{List}
use lib.ListN.{length, get_or, replicate, length-replicate, get_or-replicate}

module _ {A : Type 0} where
  -- at a place
  pub filled_at : (s : List A) (p : ℕ) (x d : A) (v : ℕ) → s ≡ replicate p x → v < length s → get_or s v d ≡ x
  filled_at s p x d v e l =
      let q : length s ≡ p = ap length e ∙ length-replicate p x in
      rw e (get_or-replicate p v x d (omega arith))

  -- where its length is k
  pub cleared : (s : List A) (x : A) (m k : ℕ) → s ≡ replicate m x → m ≡ k → s ≡ replicate k x
  cleared s x m k e q = e ∙ ap (λ (j : ℕ). replicate j x) q
