-- Only contracts inside a call name these: the steps of `angle_between` and `tangent_from_normal` that are worked out apart, and both halfedges of an edge at once. H are the halfedges, P the positions, A the face normals.
use Rattle.std.specs.Prelude.{ℕ, ◌/◌, ◌≡◌, List, cond, Float}
use Rattle.std.specs.Float.Ieee.{le, neg}
use Rattle.float.specs.Ops.{zero, one, pi}
use Rattle.math.specs.Acos.{acos_of}
use Rattle.linalg.specs.declared.Vec3.{Vec3}
use Rattle.linalg.specs.Vec.{add3, cross_of}
use Rattle.mesh.specs.Mesh.{start_vert, end_vert, paired_halfedge, is_forward, Halfedges}
use Rattle.smoothing.specs.declared.TwoTangents.{TwoTangents}
use Rattle.smoothing.specs.Directions.{directionless}
use Rattle.smoothing.specs.Lists.{point_at}
use Rattle.smoothing.specs.Edges.{EdgeIn, NormalsIn, edge_vec, bi_tangent, tangent_from_normal}

-- ---- the steps

-- `angle_between`, of the dot product
unfoldable pub angle_of_cosine : Float → Float
angle_of_cosine d = cond (le one d) zero (cond (le d (neg one)) pi (acos_of d))

-- `edge_normal` of `tangent_from_normal`: the sum of both triangles' normals
unfoldable pub edge_normal : Halfedges → List Float → ℕ → Vec3
edge_normal H A e = add3 (point_at A (e / 3)) (point_at A (paired_halfedge H e / 3))

-- the direction that `tangent_from_normal` hands to `circular_tangent`, where the edge of halfedge e is known
unfoldable pub direction_from_normal : Halfedges → List Float → Vec3 → Vec3 → ℕ → Vec3
direction_from_normal H A normal edge e = cross_of (bi_tangent normal (edge_normal H A e) edge) normal

-- ---- halfedge e and its pair

-- the pair goes the other way
pub record EdgesIn (H : Halfedges) (P : List Float) (e : ℕ) : Type 0 where
  pub edge : EdgeIn H P e
  pub paired_start : start_vert H (paired_halfedge H e) ≡ end_vert H e
  pub paired_end : end_vert H (paired_halfedge H e) ≡ start_vert H e

-- and has e as its own
pub record PairIn (H : Halfedges) (P A : List Float) (e : ℕ) : Type 0 where
  pub edges : EdgesIn H P e
  pub normals : NormalsIn H A e
  pub paired_back : paired_halfedge H (paired_halfedge H e) ≡ e

-- a is the normal at e, b that at its pair; the edge is that of e, and the pair's has no direction where it has none
unfoldable pub tangents_from_normals : Halfedges → List Float → List Float → Vec3 → Vec3 → ℕ → TwoTangents
tangents_from_normals H P A a b e = record {
  here = tangent_from_normal H P A a e;
  there = tangent_from_normal H P A b (paired_halfedge H e);
  directionless = directionless (edge_vec H P e);
}

-- the body of a loop that writes a value of each halfedge edge by edge: at the forward one of a pair those of both
unfoldable pub put_edge : {S W : Type 0} → (S → ℕ → W → S) → Halfedges → (ℕ → W) → S → ℕ → S
put_edge put H v s e =
    cond (is_forward H e) (put (put s e (v e)) (paired_halfedge H e) (v (paired_halfedge H e))) s
