-- What the second call says of the parameters at which it has its points, and of the points at them. p0 to p3 are the four control points.
use Rattle.std.specs.Prelude.{ℕ, ◌-◌, ◌≤◌, ◌<◌, ◌≡◌, List, true, false, flat_map, Float, Ok}
use Rattle.std.specs.List.{range_with_len}
use Rattle.std.specs.Float.{binary64}
use Rattle.std.specs.Float.Ieee.{round, le}
use Rattle.float.specs.Ops.{zero, one}
use Rattle.linalg.specs.declared.Vec4.{Vec4}
use Rattle.curve.specs.Questions.{is_parameter}
use Rattle.curve.specs.Curve.{position_at, direction_at, position_of, curve_at, parameter_at, numbers_of}

-- THE CLAIM, of the parameters of so many points: they go from 0 to 1, and the first call accepts each
pub record ParametersFit (count : ℕ) : Type 0 where
  -- the f64 nearest to the fraction i/(count - 1): of the two casts and the division the division alone rounds
  pub nearest : (i : ℕ) → i < count → parameter_at i count ≡ round binary64 false i (count - 1)
  pub accepted : (i : ℕ) → i < count → is_parameter (parameter_at i count) ≡ true
  pub ordered : (i j : ℕ) → i ≤ j → j < count → le (parameter_at i count) (parameter_at j count) ≡ true
  pub first : parameter_at 0 count ≡ zero
  pub last : parameter_at (count - 1) count ≡ one

-- THE CLAIM, of so many points: the first call answers at each parameter
abbrev pub PointsAnswered : Vec4 → Vec4 → Vec4 → Vec4 → ℕ → Type 0
PointsAnswered p0 p1 p2 p3 count =
    (i : ℕ) → i < count
    → let x = parameter_at i count in
    curve_at p0 p1 p2 p3 x ≡ Ok (record { position = position_at p0 p1 p2 p3 x; direction = direction_at p0 p1 p2 p3 x })

-- THE CLAIM, of the list after an accepted call: it is the positions of the first call's answers, one after the other
abbrev pub SamePoints : Vec4 → Vec4 → Vec4 → Vec4 → ℕ → List Float → Type 0
SamePoints p0 p1 p2 p3 count points =
    points ≡ flat_map (λ (i : ℕ). numbers_of (position_of (curve_at p0 p1 p2 p3 (parameter_at i count)))) (range_with_len 0 count)
