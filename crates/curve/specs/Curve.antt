-- Points along the curve of an edge, as two public calls. p0 to p3 are the four control points, their coordinates already times their weights; L is the list lent for the points.
use Rattle.std.specs.Prelude.{ℕ, ◌-◌, ◌≡◌, List, [], ◌∷◌, flat_map, length, pos, Float, Result}
use Rattle.std.specs.List.{range_with_len}
use Rattle.std.specs.Float.{binary64}
use Rattle.std.specs.Float.Ieee.{of_int}
use Rattle.float.specs.Ops.{◌⊘◌, zero}
use Rattle.linalg.specs.declared.Vec3.{Vec3}
use Rattle.linalg.specs.declared.Vec4.{Vec4}
use Rattle.questions.specs.Check.{number_of, place_of, value_or, answer_of, when_accepted}
use Rattle.questions.specs.declared.Refusal.{Refusal}
use Rattle.curve.specs.InterpTri.Bezier.{cubic_bezier_2_linear, bezier_point, bezier_tangent}
use Rattle.curve.specs.Questions.{check_parameter, check_points}
use Rattle.curve.specs.declared.CurvePoint.{CurvePoint}

-- ---- one point

-- the position at parameter x
abbrev pub position_at : Vec4 → Vec4 → Vec4 → Vec4 → Float → Vec3
position_at p0 p1 p2 p3 x = bezier_point (cubic_bezier_2_linear p0 p1 p2 p3 x) x

-- the direction there: of length 1 up to rounding, or zero where the length that is worked out is below 1e-30. Where its square overflows, as with control points 1e200 apart, the direction is zero though the curve has one; with an infinite or not-a-number control point its numbers can be not-a-number (examples: crates/cases/specs/Curves.antt).
abbrev pub direction_at : Vec4 → Vec4 → Vec4 → Vec4 → Float → Vec3
direction_at p0 p1 p2 p3 x = bezier_tangent (cubic_bezier_2_linear p0 p1 p2 p3 x)

-- both, or the refusal
abbrev pub Point : Type 0
Point = Result CurvePoint Refusal

-- the answer
abbrev pub curve_at : Vec4 → Vec4 → Vec4 → Vec4 → Float → Point
curve_at p0 p1 p2 p3 x = answer_of (check_parameter x) (record { position = position_at p0 p1 p2 p3 x; direction = direction_at p0 p1 p2 p3 x })

-- its values; all 0 for a refusal, which has none
abbrev pub zero_vector : Vec3
zero_vector = record { x = zero; y = zero; z = zero }

abbrev pub position_of : Point → Vec3
position_of = value_or zero_vector (λ (point : CurvePoint). point.position)

abbrev pub direction_of : Point → Vec3
direction_of = value_or zero_vector (λ (point : CurvePoint). point.direction)

-- what the definitions give of the answer `r`
pub record Values (p0 p1 p2 p3 : Vec4) (x : Float) (r : Point) : Type 0 where
  pub number : number_of r ≡ number_of (check_parameter x)
  pub place : place_of r ≡ place_of (check_parameter x)
  pub position : position_of r ≡ when_accepted (check_parameter x) (position_at p0 p1 p2 p3 x) zero_vector
  pub direction : direction_of r ≡ when_accepted (check_parameter x) (direction_at p0 p1 p2 p3 x) zero_vector

-- ---- points along the curve

-- the parameter of point i of so many: one division of the two numbers as f64
unfoldable pub parameter_at : ℕ → ℕ → Float
parameter_at i count = of_int binary64 (pos i) ⊘ of_int binary64 (pos (count - 1))

-- the three numbers of a position
abbrev pub numbers_of : Vec3 → List Float
numbers_of a = a.x ∷ a.y ∷ a.z ∷ []

-- those of point i of so many
abbrev pub numbers_at : Vec4 → Vec4 → Vec4 → Vec4 → ℕ → ℕ → List Float
numbers_at p0 p1 p2 p3 count i = numbers_of (position_at p0 p1 p2 p3 (parameter_at i count))

-- so many points, one after the other
abbrev pub points_of : Vec4 → Vec4 → Vec4 → Vec4 → ℕ → List Float
points_of p0 p1 p2 p3 count = flat_map (numbers_at p0 p1 p2 p3 count) (range_with_len 0 count)

-- the list after the call: as lent where it is refused
abbrev pub points_after : Vec4 → Vec4 → Vec4 → Vec4 → ℕ → List Float → List Float
points_after p0 p1 p2 p3 count L = when_accepted (check_points count (length L)) (points_of p0 p1 p2 p3 count) L
