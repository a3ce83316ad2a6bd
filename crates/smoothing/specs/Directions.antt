-- The leaves of src/smoothing.rs on directions and angles: each definition is the Rust's, one rounded operation at a time.
use Rattle.std.specs.Prelude.{Bool, cond, not, ◌||◌, Float, Option, None, Some}
use Rattle.std.specs.Float.Ieee.{lt, le, neg}
use Rattle.float.specs.Ops.{◌⊕◌, ◌⊖◌, ◌⊗◌, ◌⊘◌, lit, zero, half, one, two, three, pi, two_pi}
use Rattle.float.specs.F64.{max_of, is_finite}
use Rattle.sqrt.specs.Sqrt.{sqrt_of}
use Rattle.math.specs.Acos.{acos_of}
use Rattle.linalg.specs.declared.Vec3.{Vec3}
use Rattle.linalg.specs.declared.Vec4.{Vec4}
use Rattle.linalg.specs.Vec.{dot_of, div3, length_of}
use Rattle.smoothing.specs.declared.CircularTangent.{CircularTangent}

-- `vec3_from_vec4`
unfoldable pub vec3_from_vec4 : Vec4 → Vec3
vec3_from_vec4 v = record { x = v.x; y = v.y; z = v.z }

-- a vector with a weight
abbrev pub with_weight : Vec3 → Float → Vec4
with_weight v w = record { x = v.x; y = v.y; z = v.z; w = w }

-- the test of `safe_normalize`: a vector with this squared length has no direction
unfoldable pub is_degenerate : Float → Bool
is_degenerate len2 = le len2 zero || not (is_finite len2)

-- the end of `safe_normalize`: the direction of v, by its squared length and its length
unfoldable pub direction_by : Vec3 → Float → Float → Vec3
direction_by v len2 len = cond (is_degenerate len2) (record { x = zero; y = zero; z = zero }) (div3 v len)

-- `safe_normalize`
unfoldable pub safe_normalize : Vec3 → Vec3
safe_normalize v = let len2 = dot_of v v in direction_by v len2 (sqrt_of len2)

-- v has no direction: the whole test of `safe_normalize` says so. A zero that its division gives does not count.
unfoldable pub directionless : Vec3 → Bool
directionless v = is_degenerate (dot_of v v)

-- `safe_normalize`, where that test lets it be a direction
abbrev pub direction_of : Vec3 → Option Vec3
direction_of v = cond (directionless v) None (Some (safe_normalize v))

-- `wrap`
unfoldable pub wrap_of : Float → Float
wrap_of radians = cond (lt radians (neg pi)) (radians ⊕ two_pi) (cond (lt pi radians) (radians ⊖ two_pi) radians)

-- `angle_between`
unfoldable pub angle_between : Vec3 → Vec3 → Float
angle_between a b =
    let d = dot_of a b in
    cond (le one d) zero (cond (le d (neg one)) pi (acos_of d))

-- the comparison of `equal_normals`, of the unit vectors, with the bound 0.9999
unfoldable pub equal_units : Vec3 → Vec3 → Bool
equal_units u v = lt (lit 0x3fef_ff2e_48e8_a71e) (dot_of u v)

-- `equal_normals`
unfoldable pub equal_normals : Vec3 → Vec3 → Bool
equal_normals a b = equal_units (safe_normalize a) (safe_normalize b)

-- `circular_tangent`
unfoldable pub circular_tangent : Vec3 → Vec3 → Vec4
circular_tangent tangent edge =
    let dir = safe_normalize tangent in
    let weight = max_of half (dot_of dir (safe_normalize edge)) in
    let len = length_of edge in
    let bz2 : Vec4 = record { x = dir.x ⊗ half ⊗ len; y = dir.y ⊗ half ⊗ len; z = dir.z ⊗ half ⊗ len; w = weight } in
    let bz3 : Vec4 = record {
      x = bz2.x ⊗ (two ⊘ three);
      y = bz2.y ⊗ (two ⊘ three);
      z = bz2.z ⊗ (two ⊘ three);
      w = one ⊕ (bz2.w ⊖ one) ⊗ (two ⊘ three);
    } in
    record { x = bz3.x ⊘ bz3.w; y = bz3.y ⊘ bz3.w; z = bz3.z ⊘ bz3.w; w = bz3.w }

-- `circular_tangent`, and whether its edge has no direction
abbrev pub circular_tangent_of : Vec3 → Vec3 → CircularTangent
circular_tangent_of tangent edge = record { tangent = circular_tangent tangent edge; directionless = directionless edge }
