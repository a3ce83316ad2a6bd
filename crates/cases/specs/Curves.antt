-- Curves: which numbers are parameters, at the ends; and where a direction is zero or not a number though the curve has one.
use Rattle.std.specs.Prelude.{◌≡◌, true, false, Float}
use Rattle.std.specs.Float.{nan, inf}
use Rattle.std.specs.Float.Ieee.{neg}
use Rattle.float.specs.Ops.{lit, zero, half, one}
use Rattle.linalg.specs.declared.Vec4.{Vec4}
use Rattle.curve.specs.Questions.{is_parameter}
use Rattle.curve.specs.Curve.{direction_at, zero_vector}

-- a control point on the x axis, of weight 1
abbrev pub along : Float → Vec4
along x = record { x = x; y = zero; z = zero; w = one }

pub record CurvesHold : Type 0 where
  -- both zeros and 1 are parameters
  pub zero_is : is_parameter zero ≡ true
  pub negative_zero_is : is_parameter (neg zero) ≡ true
  pub one_is : is_parameter one ≡ true
  -- -5e-324 and the next number above 1 are none
  pub below_zero_is_none : is_parameter (lit 0x8000_0000_0000_0001) ≡ false
  pub above_one_is_none : is_parameter (lit 0x3ff0_0000_0000_0001) ≡ false
  pub nan_is_none : is_parameter nan ≡ false
  -- control points 1e200 apart, whose squared length overflows
  pub far_apart : direction_at (along zero) (along (lit 0x6974_e718_d7d7_625a)) (along (lit 0x6984_e718_d7d7_625a)) (along (lit 0x698f_5aa5_43c3_1387)) half ≡ zero_vector
  -- the last control point is infinite
  pub infinite : (direction_at (along zero) (along one) (along one) (along (inf false)) half).x ≡ nan
