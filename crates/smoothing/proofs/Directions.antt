-- Normals are compared by their unit vectors; the Rust's value of `safe_normalize`, and the tangent of what `circular_tangent` answers. Assumes nothing.
use mathlib.Core.Path.{◌≡◌, refl, ap}
use Rattle.std.specs.Prelude.{Bool, true, false, cond, None, Some, unwrap_or}
use Rattle.float.specs.Ops.{zero}
use Rattle.sqrt.specs.Sqrt.{sqrt_of}
use Rattle.linalg.specs.Vec.{dot_of, div3}
use Rattle.linalg.specs.declared.Vec3.{Vec3}
use Rattle.smoothing.specs.declared.CircularTangent.{CircularTangent}
use Rattle.smoothing.specs.Directions.{safe_normalize, direction_by, directionless, direction_of, is_degenerate, equal_normals, equal_units}

pub equal_by_units : (a b : Vec3) → equal_normals a b ≡ equal_units (safe_normalize a) (safe_normalize b)
unfolding equal_normals
equal_by_units a b = refl

-- the Rust's `safe_normalize` is zero where there is no direction
pub unit_is : (v : Vec3) → unwrap_or (direction_of v) (record { x = zero; y = zero; z = zero }) ≡ safe_normalize v
unfolding safe_normalize direction_by directionless
unit_is v = go (is_degenerate (dot_of v v))
  where
    go : (b : Bool) → unwrap_or (cond b None (Some (cond b (record { x = zero; y = zero; z = zero }) (div3 v (sqrt_of (dot_of v v)))))) (record { x = zero; y = zero; z = zero }) ≡ cond b (record { x = zero; y = zero; z = zero }) (div3 v (sqrt_of (dot_of v v)))
    go true = refl
    go false = refl

pub tangent_of : {a b : CircularTangent} → a ≡ b → a.tangent ≡ b.tangent
tangent_of q = ap (λ (t : CircularTangent). t.tangent) q
