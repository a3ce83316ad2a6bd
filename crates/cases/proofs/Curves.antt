-- The cases of specs/Curves.antt hold, by computation. Assumes nothing.
use mathlib.Core.Path.{refl}
use lib.Ieee.{is_nan}
use Rattle.curve.specs.InterpTri.Bezier.{hnormalize, lerp4, cubic_bezier_2_linear, safe_normalize, bezier_tangent}
use Rattle.curve.specs.Questions.{is_parameter}
use Rattle.cases.specs.Curves.{CurvesHold}
use Rattle.cases.proofs.Hold.{floats, calls}

pub curves_hold : CurvesHold
unfolding floats calls is_nan is_parameter hnormalize lerp4 cubic_bezier_2_linear safe_normalize bezier_tangent
curves_hold = record { zero_is = refl; negative_zero_is = refl; one_is = refl; below_zero_is_none = refl; above_one_is_none = refl; nan_is_none = refl; far_apart = refl; infinite = refl }
