-- What src/smoothing.rs reads of a halfedge: its edge vector, its tangent from a normal, and whether it lies inside a quad. H are the halfedges, P the positions, A the face normals, R the face references, T the old tangents.
use Rattle.std.specs.Prelude.{ℕ, ◌+◌, ◌*◌, ◌/◌, ◌≤◌, List, Bool, cond, not, ◌&&◌, length, ℤ, Float}
use Rattle.std.specs.Float.Ieee.{lt}
use Rattle.float.specs.Ops.{zero}
use Rattle.linalg.specs.declared.Vec3.{Vec3}
use Rattle.linalg.specs.declared.Vec4.{Vec4}
use Rattle.linalg.specs.Vec.{add3, sub3, dot_of, cross_of}
use Rattle.mesh.specs.Mesh.{start_vert, end_vert, paired_halfedge, next_halfedge, same_face, Halfedges}
use Rattle.mesh.specs.Inside.{Inside}
use Rattle.smoothing.specs.declared.CircularTangent.{CircularTangent}
use Rattle.smoothing.specs.Directions.{directionless, circular_tangent}
use Rattle.smoothing.specs.Lists.{point_at, weight_at}

-- ---- what the lists must hold for a call: `edge_in`, `normals_in`, `faces_in`, `quad_in` and `inside_quad_in` of `proofs/Edges.antt` give it on an accepted mesh

-- both ends of halfedge e have a position
pub record EdgeIn (H : Halfedges) (P : List Float) (e : ℕ) : Type 0 where
  pub inside : Inside H e
  pub start_in : start_vert H e * 3 + 3 ≤ length P
  pub end_in : end_vert H e * 3 + 3 ≤ length P

-- both triangles at it have a normal
pub record NormalsIn (H : Halfedges) (A : List Float) (e : ℕ) : Type 0 where
  pub inside : Inside H e
  pub here_in : e / 3 * 3 + 3 ≤ length A
  pub there_in : paired_halfedge H e / 3 * 3 + 3 ≤ length A

-- both of these
pub record FacesIn (H : Halfedges) (P A : List Float) (e : ℕ) : Type 0 where
  pub edge : EdgeIn H P e
  pub normals : NormalsIn H A e

-- halfedge e and its pair have a tangent
pub record QuadIn (H : Halfedges) (T : List Float) (e : ℕ) : Type 0 where
  pub here_in : e * 4 + 4 ≤ length T
  pub there_in : paired_halfedge H e * 4 + 4 ≤ length T

-- halfedge e and the other two of its triangle are read
pub record TriangleIn (H : Halfedges) (e : ℕ) : Type 0 where
  pub here : Inside H e
  pub next : Inside H (next_halfedge e)
  pub last : Inside H (next_halfedge (next_halfedge e))

-- what `is_inside_quad` reads: both triangles at halfedge e, and its tangent
pub record InsideQuadIn (H : Halfedges) (T : List Float) (e : ℕ) : Type 0 where
  pub here : TriangleIn H e
  pub there : TriangleIn H (paired_halfedge H e)
  pub tangent_in : e * 4 + 4 ≤ length T

-- ---- the tangent from a normal

-- `vert_pos[end_vert] - vert_pos[start_vert]`
unfoldable pub edge_vec : Halfedges → List Float → ℕ → Vec3
edge_vec H P e = sub3 (point_at P (end_vert H e)) (point_at P (start_vert H e))

-- `bi_tangent` of `tangent_from_normal`
unfoldable pub bi_tangent : Vec3 → Vec3 → Vec3 → Vec3
bi_tangent normal edge_normal edge = cond (lt (dot_of normal edge_normal) zero) (cross_of edge_normal edge) (cross_of normal edge)

-- `tangent_from_normal`
unfoldable pub tangent_from_normal : Halfedges → List Float → List Float → Vec3 → ℕ → Vec4
tangent_from_normal H P A normal e =
    let edge = edge_vec H P e in
    let edge_normal = add3 (point_at A (e / 3)) (point_at A (paired_halfedge H e / 3)) in
    circular_tangent (cross_of (bi_tangent normal edge_normal edge) normal) edge

-- `tangent_from_normal`, and whether its edge has no direction
abbrev pub tangent_from_normal_of : Halfedges → List Float → List Float → Vec3 → ℕ → CircularTangent
tangent_from_normal_of H P A normal e = record { tangent = tangent_from_normal H P A normal e; directionless = directionless (edge_vec H P e) }

-- ---- inside a quad

-- the closure `same_face` of `is_inside_quad`: is the triangle across halfedge e of triangle t's face?
unfoldable pub same_face_across : Halfedges → List ℤ → ℕ → ℕ → Bool
same_face_across H R e t = same_face R t (paired_halfedge H e / 3)

-- neither of the other two halfedges of e's triangle has its face across
unfoldable pub no_other_neighbor : Halfedges → List ℤ → ℕ → Bool
no_other_neighbor H R e =
    not (same_face_across H R (next_halfedge e) (e / 3))
    && not (same_face_across H R (next_halfedge (next_halfedge e)) (e / 3))

-- `is_inside_quad`; `old` says whether old tangents exist
unfoldable pub is_inside_quad : Halfedges → List ℤ → List Float → Bool → ℕ → Bool
is_inside_quad H R T old e =
    cond old (lt (weight_at T e) zero)
    (same_face_across H R e (e / 3) && no_other_neighbor H R e && no_other_neighbor H R (paired_halfedge H e))
