-- The calls along a curve as C lends them: C are the control points, four numbers each, and L the list that is written. Question 2 asks for their lengths before 40 to 42 are asked.
use Rattle.std.specs.Prelude.{ℕ, List, Bool, ◌&&◌, length, Float}
use Rattle.linalg.specs.declared.Vec3.{Vec3}
use Rattle.linalg.specs.declared.Vec4.{Vec4}
use Rattle.smoothing.specs.Lists.{tangent_at, put_point}
use Rattle.questions.specs.Questions.{has_length}
use Rattle.questions.specs.Check.{Checked, asked, ◌then◌, when_accepted}
use Rattle.questions.specs.declared.Question.TheVariants.{Lengths}
use Rattle.curve.specs.Questions.{check_parameter, check_points}
use Rattle.curve.specs.Curve.{position_at, direction_at, points_of}
use Rattle.tangents_c.specs.declared.controls.Controls.{Controls}

-- the control points of a list: four numbers each, as a tangent has
unfoldable pub controls_of : List Float → Controls
controls_of C = record { p0 = tangent_at C 0; p1 = tangent_at C 1; p2 = tangent_at C 2; p3 = tangent_at C 3 }

-- a definition of four control points, of these
abbrev pub of_controls : {A : Type 0} → (Vec4 → Vec4 → Vec4 → Vec4 → A) → List Float → A
of_controls f C = let c = controls_of C in f c.p0 c.p1 c.p2 c.p3

-- 2: are they 16 numbers?
abbrev pub controls_fit : List Float → Bool
controls_fit C = has_length (length C) 4 4

-- ---- one point: L has three numbers of the position and three of the direction

abbrev pub check_curve_at : List Float → Float → List Float → Checked
check_curve_at C x L = asked Lengths 0 (controls_fit C && has_length (length L) 2 3) then check_parameter x

abbrev pub put_both : List Float → Vec3 → Vec3 → List Float
put_both L position direction = put_point (put_point L 0 position) 1 direction

abbrev pub point_after : List Float → Float → List Float → List Float
point_after C x L = when_accepted (check_curve_at C x L) (put_both L (of_controls position_at C x) (of_controls direction_at C x)) L

-- ---- points along the curve

abbrev pub check_curve_points : List Float → ℕ → List Float → Checked
check_curve_points C count L = asked Lengths 0 (controls_fit C) then check_points count (length L)

abbrev pub points_after : List Float → ℕ → List Float → List Float
points_after C count L = when_accepted (check_curve_points C count L) (of_controls points_of C count) L
