-- The questions of the calls along a curve: 40 to the parameter of one point, 41 and 42 to the count and the list of several.
use Rattle.std.specs.Prelude.{ℕ, Bool, not, ◌&&◌, ◌||◌, leb, Float}
use Rattle.std.specs.Float.Ieee.{lt, is_nan}
use Rattle.float.specs.Ops.{zero, one}
use Rattle.questions.specs.Questions.{has_length}
use Rattle.questions.specs.Check.{Checked, asked, ◌then◌}
use Rattle.questions.specs.declared.Question.TheVariants.{Parameter, CurveCount, CurveRoom}
use Rattle.curve.specs.declared.TheConstants.{MIN_POINTS, MAX_POINTS}

-- 40: "parameter not a number, below 0 or above 1". Negative zero is not below 0.
unfoldable pub is_parameter : Float → Bool
is_parameter x = not (is_nan x || lt x zero || lt one x)

abbrev pub check_parameter : Float → Checked
check_parameter x = asked Parameter 0 (is_parameter x)

-- the fewest and the most points of a list, 2 and 256, as src/lib.rt has them
abbrev pub min_points : ℕ
min_points = MIN_POINTS

abbrev pub max_points : ℕ
max_points = MAX_POINTS

-- 41: are they so many points?
abbrev pub count_fits : ℕ → Bool
count_fits count = leb min_points count && leb count max_points

-- 41, then 42: has the list, of so many places, three numbers for each point?
abbrev pub check_points : ℕ → ℕ → Checked
check_points count room = asked CurveCount 0 (count_fits count) then asked CurveRoom 0 (has_length room count 3)
