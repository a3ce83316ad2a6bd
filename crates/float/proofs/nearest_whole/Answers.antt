-- `float::nearest_whole` meets its contract: n is x's whole part, and the test compares x with n and a half. Assumes nothing.
use Rattle.std.proofs.Common.{◌≡◌, true, false, ℕ, ◌*◌, ◌/◌, ◌<◌, T, ◌∙◌, arith}
use lib.Ieee.{Float, lt, le, to_unsigned}
use lib.Ieee.Positive.{num, den, positive}
use Rattle.float.specs.Ops.{lit, zero}
use Rattle.float.proofs.Rounding.{is_positive, is_below, in_range, truncated, small_whole, rounded_up, rounded_down}
use Rattle.float.proofs.nearest_whole.Goals as goal

-- x is positive and below 2 ^ 52
module _ (x : Float) (p : (lt zero x ≡ true) × (le (lit 0x4330_0000_0000_0000) x ≡ false)) where
  positive_x : T (positive x)
  positive_x = is_positive x p.0 p.1

  below_x : num x < 4503599627370496 * den x
  below_x = is_below x positive_x p.1

  module _ (n : ℕ) (e : n ≡ to_unsigned 64 x) where
    n_is : n ≡ num x / den x
    n_is = e ∙ truncated x positive_x below_x

    n_small : n < 4503599627370496
    n_small = small_whole n x positive_x below_x n_is

pub truncating_f64_to_u64-n-requires : goal.truncating_f64_to_u64-n-requires
truncating_f64_to_u64-n-requires c =
    let r = in_range c.args.x (positive_x c.args.x c.requires) (below_x c.args.x c.requires) in
    record { lower_bound = r.0; upper_bound = r.1 }

pub overflow_mul-n : goal.overflow_mul-n
overflow_mul-n c = omega (arith, n_small c.args.x c.requires c.truncating_f64_to_u64-n.result c.truncating_f64_to_u64-n.ensures)

pub overflow_add-n : goal.overflow_add-n
overflow_add-n c = omega (arith, n_small c.args.x c.requires c.truncating_f64_to_u64-n.result c.truncating_f64_to_u64-n.ensures)

pub overflow_add-result : goal.overflow_add-result
overflow_add-result c = omega (arith, n_small c.args.x c.requires c.truncating_f64_to_u64-n.result c.truncating_f64_to_u64-n.ensures)

pub returns-then-x-nearest_u64_to_f64 : goal.returns-then-x-nearest_u64_to_f64
returns-then-x-nearest_u64_to_f64 c =
    rounded_up _ c.args.x (positive_x c.args.x c.requires) (below_x c.args.x c.requires) (n_is _ c.requires _ c.truncating_f64_to_u64-n.ensures)
    (rw (← c.nearest_u64_to_f64.ensures) c.if-x-nearest_u64_to_f64.true)

pub returns-else-x-nearest_u64_to_f64 : goal.returns-else-x-nearest_u64_to_f64
returns-else-x-nearest_u64_to_f64 c =
    rounded_down _ c.args.x (positive_x c.args.x c.requires) (below_x c.args.x c.requires) (n_is _ c.requires _ c.truncating_f64_to_u64-n.ensures)
    (rw (← c.nearest_u64_to_f64.ensures) c.if-x-nearest_u64_to_f64.false)
