-- The code's means: a list of the unit vectors of the triangles' normals, each worked out once. Only contracts of functions inside the making cite these definitions. A are the face normals, U the list, n how many halfedges there are.
use Rattle.std.specs.Prelude.{ℕ, ◌+◌, ◌*◌, ◌/◌, ◌≤◌, ◌≡◌, List, length, Float}
use Rattle.common.specs.Fold.{fold_to}
use Rattle.smoothing.specs.Directions.{safe_normalize}
use Rattle.smoothing.specs.Lists.{point_at, put_point}

-- what the list must be for a call: the unit vector of each triangle's normal
pub record UnitsIn (A U : List Float) (n : ℕ) : Type 0 where
  pub numbers : length U ≡ n
  pub units : (t : ℕ) → t * 3 + 3 ≤ n → point_at U t ≡ safe_normalize (point_at A t)

-- the list with that of triangle t
unfoldable pub put_unit : List Float → List Float → ℕ → List Float
put_unit A U t = put_point U t (safe_normalize (point_at A t))

-- and so for each triangle
unfoldable pub put_units : List Float → List Float → ℕ → List Float
put_units A U n = fold_to (put_unit A) U (n / 3)
