-- `create_tangents` up to straightening and spreading. H are the halfedges, R the face references, P the positions, N the point normals, A the face normals, `inside` is `is_inside_quad`, `vert` is the map `vert_tangents`.
use Rattle.std.specs.Prelude.{ℕ, List, Bool, replicate, ℤ, Float}
use Rattle.mesh.specs.Mesh.{Halfedges}
use Rattle.smoothing.specs.Faces.{flat_faces, is_flat}
use Rattle.create.specs.Edges.Edges.{Pair}
use Rattle.create.specs.Initial.First.{first_tangents}
use Rattle.create_shared.specs.Makings.{Tangents, tangents_of}
use Rattle.create.specs.Shapes.Shapes.{shape_verts}

-- the tangents and the fixed flags of n halfedges and p points; no halfedge is fixed to begin with
unfoldable pub shaped_tangents : Halfedges → List Float → List Float → List Float → List ℤ → (ℕ → Bool) → (ℕ → List Pair) → ℕ → ℕ → Tangents
shaped_tangents H P N A R inside vert n p =
    shape_verts H P (is_flat (flat_faces H R n)) n vert p (tangents_of (first_tangents H P N A R inside n) (replicate n 0))
