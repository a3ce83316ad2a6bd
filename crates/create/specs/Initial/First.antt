-- The first tangent of each halfedge in `create_tangents`, and how many of them are circular tangents on an edge without direction. H are the halfedges, R the face references, P the positions, N the point normals, A the face normals; `inside` is `is_inside_quad`.
use Rattle.std.specs.Prelude.{ℕ, ◌*◌, List, Bool, cond, not, ◌&&◌, replicate, ℤ, Float}
use Rattle.std.specs.Float.Ieee.{neg}
use Rattle.float.specs.Ops.{zero, one}
use Rattle.linalg.specs.declared.Vec3.{Vec3}
use Rattle.linalg.specs.declared.Vec4.{Vec4}
use Rattle.mesh.specs.Mesh.{start_vert, Halfedges}
use Rattle.common.specs.Fold.{fold_to}
use Rattle.common.specs.Count.{count_below}
use Rattle.smoothing.specs.Lists.{point_at, put_tangent}
use Rattle.smoothing.specs.Directions.{directionless}
use Rattle.smoothing.specs.Edges.{edge_vec, tangent_from_normal}
use Rattle.smoothing.specs.declared.faces.FlatFace.{FlatFace}
use Rattle.smoothing.specs.declared.faces.FlatFace.TheVariants.{NoFace, OneFace, MoreFaces}
use Rattle.smoothing.specs.Faces.{flat_faces, is_flat, vert_flat_face}

-- ---- one halfedge

-- `vert_normal[v]`: the clone of the point's normal, with `face_normal[vert_flat_face[v]]` in its place where `vert_flat_face[v] >= 0`. The Rust's -1, t and -2 are NoFace, OneFace t and MoreFaces.
unfoldable pub vert_normal : List Float → List Float → ℕ → FlatFace → Vec3
vert_normal N A v NoFace = point_at N v
vert_normal N A v (OneFace t) = point_at A t
vert_normal N A v (MoreFaces t) = point_at N v

-- `Vec4::new(0.0, 0.0, 0.0, -1.0)`, the mark of a halfedge inside a quad
abbrev pub inside_quad_tangent : Vec4
inside_quad_tangent = record { x = zero; y = zero; z = zero; w = neg one }

-- the first tangent of halfedge e, where f are the flat faces at its start point
unfoldable pub first_tangent : Halfedges → List Float → List Float → List Float → (ℕ → Bool) → FlatFace → ℕ → Vec4
first_tangent H P N A inside f e =
    cond (inside e) inside_quad_tangent (tangent_from_normal H P A (vert_normal N A (start_vert H e) f) e)

-- ---- all of them

-- the body of the loop, at halfedge e, where `faces v` are the flat faces at point v
unfoldable pub put_first_tangent : Halfedges → List Float → List Float → List Float → (ℕ → Bool) → (ℕ → FlatFace) → List Float → ℕ → List Float
put_first_tangent H P N A inside faces T e = put_tangent T e (first_tangent H P N A inside (faces (start_vert H e)) e)

-- `tangent`, from the Rust's list of zeros
unfoldable pub first_tangents : Halfedges → List Float → List Float → List Float → List ℤ → (ℕ → Bool) → ℕ → List Float
first_tangents H P N A R inside n =
    fold_to (put_first_tangent H P N A inside (vert_flat_face H R (is_flat (flat_faces H R n)) n)) (replicate (n * 4) zero) n

-- ---- the count of circular tangents on an edge without direction

-- The `else` of the loop's `is_inside_quad(edge_idx)`: `tangent_from_normal` of halfedge e, whose `circular_tangent` is on the edge of e. That edge has no direction.
unfoldable pub first_directionless : Halfedges → List Float → (ℕ → Bool) → ℕ → Bool
first_directionless H P inside e = not (inside e) && directionless (edge_vec H P e)

-- how many of the n
abbrev pub firsts_directionless : Halfedges → List Float → (ℕ → Bool) → ℕ → ℕ
firsts_directionless H P inside n = count_below (first_directionless H P inside) n
