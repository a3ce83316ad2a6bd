-- The four arms of `sin` and of `cos` in one expression: the cosine is the sine one quarter turn further on. Assumes nothing.
use Rattle.std.specs.Prelude.{Some}
use Rattle.std.proofs.Common.{◌≡◌, ℕ, zero, suc, ◌+◌, ◌%◌, ◌<◌, cond, eqb, ltb, refl, ℤ, pos, negsuc, add-zero, arith}
use lib.Ieee.{Float, neg}
use Rattle.math.specs.declared.RemPio2.{RemPio2}
use Rattle.math.specs.Kernels.{sin_kernel, cos_kernel}
use Rattle.math.specs.Turns.{quadrant_kernel, sin_turned}
use Rattle.math.specs.Trig.{quadrant_of, sin_reduced, cos_reduced}

pub below_4 : (n : ℤ) → quadrant_of n < 4
unfolding quadrant_of
below_4 (pos k) = omega arith
below_4 (negsuc k) = omega arith

-- what `sin_turned` gives at the quadrant q
abbrev turned : ℕ → Float → Float → Float
turned q y0 y1 = cond (ltb (q % 4) 2) (quadrant_kernel q y0 y1) (neg (quadrant_kernel q y0 y1))

-- four values, by the quadrant
abbrev arms : ℕ → Float → Float → Float → Float → Float
arms q a b c d = cond (eqb q 0) a (cond (eqb q 1) b (cond (eqb q 2) c d))

sin_arms : (q : ℕ) (y0 y1 : Float) → q < 4 → turned q y0 y1 ≡ arms q (sin_kernel y0 (Some y1)) (cos_kernel y0 y1) (neg (sin_kernel y0 (Some y1))) (neg (cos_kernel y0 y1))
unfolding quadrant_kernel
sin_arms zero y0 y1 h = refl
sin_arms (suc zero) y0 y1 h = refl
sin_arms (suc (suc zero)) y0 y1 h = refl
sin_arms (suc (suc (suc zero))) y0 y1 h = refl
sin_arms (suc (suc (suc (suc q)))) y0 y1 h = absurd (let w : ⊥ = omega arith in w)

cos_arms : (q : ℕ) (y0 y1 : Float) → q < 4 → turned (q + 1) y0 y1 ≡ arms q (cos_kernel y0 y1) (neg (sin_kernel y0 (Some y1))) (neg (cos_kernel y0 y1)) (sin_kernel y0 (Some y1))
unfolding quadrant_kernel
cos_arms zero y0 y1 h = refl
cos_arms (suc zero) y0 y1 h = refl
cos_arms (suc (suc zero)) y0 y1 h = refl
cos_arms (suc (suc (suc zero))) y0 y1 h = refl
cos_arms (suc (suc (suc (suc q)))) y0 y1 h = absurd (let w : ⊥ = omega arith in w)

pub sin_is : (t : RemPio2) → sin_turned 0 t ≡ sin_reduced t
unfolding sin_turned sin_reduced
sin_is t = rw (add-zero (quadrant_of t.n)) (sin_arms (quadrant_of t.n) t.y0 t.y1 (below_4 t.n))

pub cos_is : (t : RemPio2) → sin_turned 1 t ≡ cos_reduced t
unfolding sin_turned cos_reduced
cos_is t = cos_arms (quadrant_of t.n) t.y0 t.y1 (below_4 t.n)
