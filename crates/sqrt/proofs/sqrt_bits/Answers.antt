-- `sqrt::sqrt_bits` meets its contract, by the laws of `proofs/RootEncoding.antt`. Assumes nothing.
use mathlib.Core.Path.{◌≡◌, sym, ap, ◌∙◌, subst}
use Prim.Native.Nat.{ℕ, ◌+◌, ◌*◌, ◌/◌, ◌%◌, ◌^◌, ◌<◌}
use native.Mathlib.Omega.{arith}
use lib.Ieee.{binary64, of_bits}
use Rattle.sqrt.specs.Sqrt.{isqrt, square_root}
use Rattle.sqrt.specs.Steps.{infinity_bits, IsNormalized}
use Rattle.sqrt.proofs.Squares.{isqrt_floor}
use Rattle.sqrt.proofs.RootEncoding.{bits54, encoded_root}
use Rattle.sqrt.proofs.sqrt_bits.Goals as goal

-- the bits r of the root are finite, and encode the root of the value with the bits b
abbrev Encodes : ℕ → ℕ → Type 0
Encodes b r = (r < infinity_bits) × (of_bits binary64 r ≡ square_root binary64 (of_bits binary64 b))

module _ (b m f n q : ℕ) (h : b < infinity_bits) (x : IsNormalized b m f) (n_is : n ≡ m * (f % 2 + 1)) (q_is : q ≡ (isqrt (n * 2 ^ 54) + 1) / 2) where
  root_is : q ≡ (isqrt (m * (f % 2 + 1) * 2 ^ 54) + 1) / 2
  root_is = q_is ∙ ap (λ (n : ℕ). (isqrt (n * 2 ^ 54) + 1) / 2) n_is

  encodes : Encodes b (f / 2 * 2 ^ 52 + q)
  encodes =
      let s = isqrt_floor (m * (f % 2 + 1) * 2 ^ 54) in
      let d = bits54 m f (isqrt (m * (f % 2 + 1) * 2 ^ 54)) x.below x.least s in
      subst (λ (q : ℕ). Encodes b (f / 2 * 2 ^ 52 + q)) (sym root_is) (omega (arith, d.most, x.high), encoded_root b m f _ h x s d)

pub overflow_add-result : goal.overflow_add-result
overflow_add-result c = omega (arith, (encodes _ _ _ _ _ c.requires.1 c.normalize-x.ensures.0 c.radicand.ensures c.sqrt_significand-q.ensures).0)

pub returns : goal.returns
returns c = encodes _ _ _ _ _ c.requires.1 c.normalize-x.ensures.0 c.radicand.ensures c.sqrt_significand-q.ensures
