-- The steps of `tangent_from_normal` that are worked out apart make it; and what both halfedges of an edge share. Assumes nothing.
use Prim.Native.Nat.{ℕ, ◌*◌, ◌/◌, ◌<◌}
use mathlib.Core.Path.{◌≡◌, refl, sym, ap}
use mathlib.Core.List.{List}
use lib.ListN.{length}
use lib.Ieee.{Float}
use Rattle.linalg.specs.declared.Vec3.{Vec3}
use Rattle.sqrt.specs.Sqrt.{sqrt_of}
use Rattle.linalg.specs.Vec.{cross_of, dot_of, length_of, length2_of}
use Rattle.mesh.specs.Mesh.{halfedge_stride, start_vert, end_vert, paired_halfedge, Halfedges}
use Rattle.mesh.specs.Sound.{Sound}
use Rattle.smoothing.specs.Directions.{angle_between, is_degenerate, directionless, circular_tangent}
use Rattle.smoothing.specs.Lists.{point_at}
use Rattle.smoothing.specs.Edges.{edge_vec, bi_tangent, tangent_from_normal}
use Rattle.smoothing.specs.Inner.{angle_of_cosine, edge_normal, direction_from_normal, EdgesIn, PairIn}
use Rattle.smoothing.proofs.Edges.{edge_in, normals_in}
use Rattle.smoothing.proofs.Floats.{add3_flip, dot_sub3}

pub angle_between_is : (a b : Vec3) → angle_between a b ≡ angle_of_cosine (dot_of a b)
unfolding angle_between angle_of_cosine
angle_between_is a b = refl

pub tangent_across : (H : Halfedges) (P A : List Float) (normal : Vec3) (e : ℕ) → tangent_from_normal H P A normal e ≡ circular_tangent (cross_of (bi_tangent normal (edge_normal H A e) (edge_vec H P e)) normal) (edge_vec H P e)
unfolding tangent_from_normal edge_normal
tangent_across H P A normal e = refl

pub tangent_by_direction : (H : Halfedges) (P A : List Float) (normal : Vec3) (e : ℕ) → tangent_from_normal H P A normal e ≡ circular_tangent (direction_from_normal H A normal (edge_vec H P e) e) (edge_vec H P e)
unfolding direction_from_normal
tangent_by_direction = tangent_across

-- ---- halfedge e and its pair

-- on an accepted mesh
pub pair_in : (H : Halfedges) (n p : ℕ) (P A : List Float) → Sound H n p → H.numbers ≡ n * halfedge_stride → length P ≡ p * 3 → length A ≡ n → (e : ℕ) → e < n → PairIn H P A e
pair_in H n p P A s whole l m e h = record {
  edges = record { edge = edge_in H n p P s whole l e h; paired_start = s.paired_start e h; paired_end = s.paired_end e h };
  normals = normals_in H n p A s whole m e h;
  paired_back = s.paired_back e h;
}

pub normal_there : (H : Halfedges) (A : List Float) (e : ℕ) → paired_halfedge H (paired_halfedge H e) ≡ e → edge_normal H A (paired_halfedge H e) ≡ edge_normal H A e
unfolding edge_normal
normal_there H A e q = rw q (add3_flip (point_at A (paired_halfedge H e / 3)) (point_at A (e / 3)))

squared_there : {H : Halfedges} {P : List Float} {e : ℕ} → EdgesIn H P e → dot_of (edge_vec H P e) (edge_vec H P e) ≡ dot_of (edge_vec H P (paired_halfedge H e)) (edge_vec H P (paired_halfedge H e))
unfolding edge_vec
squared_there {H} {P} {e} w =
    rw (w.paired_start, w.paired_end) (dot_sub3 (point_at P (end_vert H e)) (point_at P (start_vert H e)))

-- neither has a direction, or both have one
pub directionless_there : {H : Halfedges} {P : List Float} {e : ℕ} → EdgesIn H P e → directionless (edge_vec H P (paired_halfedge H e)) ≡ directionless (edge_vec H P e)
unfolding directionless
directionless_there w = ap is_degenerate (sym (squared_there w))

-- one length serves both
pub length_there : {H : Halfedges} {P : List Float} {e : ℕ} → EdgesIn H P e → (length2_of (edge_vec H P (paired_halfedge H e)) ≡ length2_of (edge_vec H P e)) × (length_of (edge_vec H P (paired_halfedge H e)) ≡ length_of (edge_vec H P e))
unfolding length_of length2_of
length_there w = let q = sym (squared_there w) in (q, ap sqrt_of q)
