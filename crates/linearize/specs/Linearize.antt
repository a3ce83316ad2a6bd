-- `linearize_flat_tangents` of src/smoothing_tangents.rs: straightening. H are the halfedges, P the positions, T the tangents, n and p the counts of halfedges and points.
use Rattle.std.specs.Prelude.{ℕ, ◌*◌, ◌≡◌, List, Bool, true, false, cond, ◌&&◌, length, Float}
use Rattle.std.specs.Float.Ieee.{eq}
use Rattle.float.specs.Ops.{zero, one, two, three}
use Rattle.linalg.specs.declared.Vec3.{Vec3}
use Rattle.linalg.specs.declared.Vec4.{Vec4}
use Rattle.linalg.specs.Vec.{add3, neg3, div3}
use Rattle.mesh.specs.Mesh.{halfedge_stride, paired_halfedge, is_forward, Halfedges}
use Rattle.questions.specs.Questions.{has_length, mesh_fits}
use Rattle.questions.specs.Check.{Checked, check_mesh, when_accepted}
use Rattle.common.specs.Fold.{fold_to}
use Rattle.mesh.specs.Sound.{Sound}
use Rattle.smoothing.specs.Directions.{vec3_from_vec4, with_weight}
use Rattle.smoothing.specs.Lists.{tangent_at, put_tangent, is_marked_inside_quad}
use Rattle.smoothing.specs.Edges.{EdgeIn, QuadIn, edge_vec}

-- ---- one edge

-- `w == 0.0`, of either zero
abbrev pub is_flat : Vec4 → Bool
is_flat tangent = eq tangent.w zero

-- `Vec4::new(v.x, v.y, v.z, 1.0)`
unfoldable pub with_unit_weight : Vec3 → Vec4
with_unit_weight v = with_weight v one

-- The new tangent of a flat end, from the edge as it runs from that end and the tangent of the other end. The Rust's four expressions are this at `edge_vec` and `other`, and at `-edge_vec` and `tangent`.
unfoldable pub linearized : Vec3 → Vec4 → Vec4
linearized edge other = with_unit_weight (cond (is_flat other) (div3 edge three) (div3 (add3 edge (vec3_from_vec4 other)) two))

-- the end at halfedge e, whose tangent is `tangent`: nothing unless it is flat
unfoldable pub linearize_end : List Float → ℕ → Vec3 → Vec4 → Vec4 → List Float
linearize_end T e edge tangent other = cond (is_flat tangent) (put_tangent T e (linearized edge other)) T

-- both ends of an edge, from the tangents as they were read before
unfoldable pub linearize_edge : List Float → ℕ → ℕ → Vec3 → Vec4 → Vec4 → List Float
linearize_edge T e pair edge tangent other =
    linearize_end (linearize_end T e edge tangent other) pair (neg3 edge) other tangent

-- ---- all edges

-- the body of the Rust's loop at halfedge e
unfoldable pub linearize_at : Halfedges → List Float → List Float → ℕ → List Float
linearize_at H P T e =
    let pair = paired_halfedge H e in
    cond (is_forward H e) (linearize_edge T e pair (edge_vec H P e) (tangent_at T e) (tangent_at T pair)) T

-- `linearize_flat_tangents`
unfoldable pub linearize_flat_tangents : Halfedges → List Float → List Float → ℕ → List Float
linearize_flat_tangents H P T n = fold_to (linearize_at H P) T n

-- ---- the call

-- question 2: 3 numbers per halfedge, 3 per point, 4 per tangent
abbrev pub lengths_fit : Halfedges → List Float → List Float → ℕ → ℕ → Bool
lengths_fit H P T n p = mesh_fits H.numbers (length P) n p && has_length (length T) n 4

-- the answer, for every input
abbrev pub linearize_answer : Halfedges → List Float → List Float → ℕ → ℕ → Checked
linearize_answer H P T n p = check_mesh H n p (lengths_fit H P T n p)

-- the tangents after the call, for every input: as lent when it is refused
abbrev pub tangents_after : Halfedges → List Float → List Float → ℕ → ℕ → List Float
tangents_after H P T n p = when_accepted (linearize_answer H P T n p) (linearize_flat_tangents H P T n) T

-- THE CLAIM, of the tangents T as lent and U after the call, for every input: only flat tangents are written over. A diagonal of a quad is marked at both of its halfedges; a mark that is written over at one of them alone spoils the quad.
pub record TangentsKept (T U : List Float) : Type 0 where
  -- the list is as long as before
  pub whole : length U ≡ length T
  -- at every halfedge d, a tangent that is not flat is the same as before
  pub unflat : (d : ℕ) → is_flat (tangent_at T d) ≡ false → tangent_at U d ≡ tangent_at T d
  -- and so is one that is marked inside a quad
  pub marked : (d : ℕ) → is_marked_inside_quad T d ≡ true → tangent_at U d ≡ tangent_at T d

-- ---- what the inner functions ask of their lists

-- at halfedge e: both ends have a position and a tangent
pub record HalfedgeIn (H : Halfedges) (P T : List Float) (e : ℕ) : Type 0 where
  pub edge : EdgeIn H P e
  pub tangents : QuadIn H T e

-- the lists of an accepted call
pub record Lists (H : Halfedges) (P T : List Float) (n p : ℕ) : Type 0 where
  pub sound : Sound H n p
  pub whole : H.numbers ≡ n * halfedge_stride
  pub positions : length P ≡ p * 3
  pub tangents : length T ≡ n * 4
