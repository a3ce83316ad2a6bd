-- `math::clear_low_word`: a number's bits without their low word are a number's. Assumes nothing.
use borrow.Author.Tests.{ltb-false}
use mathlib.Core.Path.{◌≡◌, sym, ap, ◌∙◌, subst}
use mathlib.Core.Bool.{not}
use Prim.Native.Nat.{ℕ, ◌+◌, ◌*◌, ◌/◌, ◌%◌, ◌≤◌}
use native.Mathlib.Omega.{arith}
use lib.Dec.{T}
use lib.Ieee.{Float, binary64, fits, is_nan, to_bits}
use lib.Ieee.Bits.{is_false, of_bits-to_bits, to_bits-lt, nan_bits_is, nan_bits_above}
use Rattle.float.proofs.Nan.{low_no_nan}
use Rattle.math.proofs.clear_low_word.Goals as goal

-- the bits of a number, without the sign, are at most those of infinity
number_low : (x : Float) → T (fits binary64 x) → T (not (is_nan x)) → to_bits binary64 x % 0x8000_0000_0000_0000 ≤ 0x7ff0_0000_0000_0000
number_low x f h =
    ltb-false _ _ (sym (nan_bits_above binary64 (to_bits binary64 x)) ∙ nan_bits_is binary64 (to_bits binary64 x) ∙ ap is_nan (of_bits-to_bits binary64 x f) ∙ is_false (is_nan x) h)

-- and so they are without their low word
without_sign : (n : ℕ) → n / 0x1_0000_0000 * 0x1_0000_0000 % 0x8000_0000_0000_0000 ≡ n / 0x1_0000_0000 % 0x8000_0000 * 0x1_0000_0000
without_sign n = omega arith

cleared_low : (n : ℕ) → n % 0x8000_0000_0000_0000 ≤ 0x7ff0_0000_0000_0000 → n / 0x1_0000_0000 * 0x1_0000_0000 % 0x8000_0000_0000_0000 ≤ 0x7ff0_0000_0000_0000
cleared_low n h =
    let e : n % 0x8000_0000_0000_0000 ≡ n / 0x1_0000_0000 % 0x8000_0000 * 0x1_0000_0000 + n % 0x1_0000_0000 = omega arith in
    omega (arith, without_sign n, e)

representable : (c : goal.Start) → T (fits binary64 c.args.x)
representable c = subst T (sym c.well_formed.0.1) tt

pub overflow_mul-result : goal.overflow_mul-result
overflow_mul-result c = omega (arith, to_bits-lt binary64 c.args.x (representable c))

pub float_from_bits-result : goal.float_from_bits-result
float_from_bits-result c = low_no_nan _ (cleared_low _ (number_low c.args.x (representable c) c.requires))
