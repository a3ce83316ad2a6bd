-- What a crease through a point, and a meeting of creases, do to the tangents of a vertex cycle. H are the halfedges, `flat` says of a triangle whether it lies in a flat face, T the tangents, n how many halfedges there are.
use Rattle.std.specs.Prelude.{ℕ, ◌/◌, Bool, cond, ◌||◌, eqb, Float}
use mathlib.Core.List.{List, foldl}
use Rattle.std.specs.Float.Ieee.{eq}
use Rattle.float.specs.Ops.{◌⊗◌, zero}
use Rattle.linalg.specs.declared.Vec3.{Vec3}
use Rattle.linalg.specs.declared.Vec4.{Vec4}
use Rattle.linalg.specs.Vec.{sub3, normalize_of}
use Rattle.mesh.specs.Mesh.{paired_halfedge, Halfedges}
use Rattle.smoothing.specs.Directions.{vec3_from_vec4}
use Rattle.smoothing.specs.Lists.{tangent_at, put_tangent, is_marked_inside_quad}
use Rattle.cycles.specs.Cycles.{vertex_cycle}

-- ---- `sharpen_tangent`

-- its four numbers
unfoldable pub sharpened : Float → Vec4 → Vec4
sharpened s t = record { x = s ⊗ t.x; y = s ⊗ t.y; z = s ⊗ t.z; w = cond (eq s zero) zero t.w }

unfoldable pub sharpen_tangent : List Float → ℕ → Float → List Float
sharpen_tangent T e s = put_tangent T e (sharpened s (tangent_at T e))

-- ---- a crease through a point, of the halfedges `first` and `second`

-- `new_tangent`
unfoldable pub new_tangent : List Float → ℕ → ℕ → Vec3
new_tangent T first second = normalize_of (sub3 (vec3_from_vec4 (tangent_at T first)) (vec3_from_vec4 (tangent_at T second)))

-- what the loop round the vertex cycle changes: the tangents, and `smoothness`, which is that of the side it is on
pub record Sides : Type 0 where
  pub tangents : List Float
  pub smoothness : Float

abbrev pub sides_of : List Float → Float → Sides
sides_of T s = record { tangents = T; smoothness = s }

-- the body of the loop, at halfedge `current`; `beyond` is the smoothness from `second` on
unfoldable pub sharpen_side : ℕ → ℕ → Float → Sides → ℕ → Sides
sharpen_side first second beyond m current =
    cond (eqb current second) (sides_of m.tangents beyond)
    (cond (eqb current first || is_marked_inside_quad m.tangents current) m
    (sides_of (sharpen_tangent m.tangents current m.smoothness) m.smoothness))

-- the loop; `between` is the smoothness from `first` to `second`
unfoldable pub sharpen_sides : Halfedges → ℕ → List Float → ℕ → ℕ → Float → Float → List Float
sharpen_sides H n T first second between beyond =
    (foldl (sharpen_side first second beyond) (sides_of T between) (vertex_cycle H n first)).tangents

-- ---- a meeting

-- `s`: 0 beside a flat face, else the mean smoothness
unfoldable pub meeting_smoothness : Halfedges → (ℕ → Bool) → Float → ℕ → Float
meeting_smoothness H flat mean current = cond (flat (current / 3) || flat (paired_halfedge H current / 3)) zero mean

-- the body of the loop, at halfedge `current`
unfoldable pub sharpen_meeting_at : Halfedges → (ℕ → Bool) → Float → List Float → ℕ → List Float
sharpen_meeting_at H flat mean T current =
    cond (is_marked_inside_quad T current) T (sharpen_tangent T current (meeting_smoothness H flat mean current))

-- the loop, from the halfedge of the first pair
unfoldable pub sharpen_meeting : Halfedges → (ℕ → Bool) → ℕ → List Float → ℕ → Float → List Float
sharpen_meeting H flat n T first mean = foldl (sharpen_meeting_at H flat mean) T (vertex_cycle H n first)
