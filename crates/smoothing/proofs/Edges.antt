-- On an accepted mesh the lists hold what a call of `smoothing` reads at a halfedge. Assumes nothing.
use Prim.Native.Nat.{ℕ, ◌+◌, ◌*◌, ◌≤◌, ◌<◌}
use native.Mathlib.Omega.{arith}
use mathlib.Core.Path.{◌≡◌}
use mathlib.Core.Logic.{⊎_elim}
use mathlib.Core.List.{List}
use lib.ListN.{length}
use lib.Ieee.{Float}
use Rattle.mesh.specs.Mesh.{halfedge_stride, paired_halfedge, next_halfedge, Halfedges}
use Rattle.mesh.specs.Sound.{Sound}
use Rattle.mesh.proofs.Halfedges.{next_cases, next_below}
use Rattle.mesh.proofs.Inside.{inside}
use Rattle.smoothing.specs.Edges.{EdgeIn, NormalsIn, FacesIn, QuadIn, TriangleIn, InsideQuadIn}

pub edge_in : (H : Halfedges) (n p : ℕ) (P : List Float) → Sound H n p → H.numbers ≡ n * halfedge_stride → length P ≡ p * 3 → (e : ℕ) → e < n → EdgeIn H P e
edge_in H n p P s whole l e h = record {
  inside = inside s whole e h;
  start_in = omega (arith, s.start_below e h);
  end_in = omega (arith, s.end_below e h);
}

-- A has three numbers for each triangle
pub normals_in : (H : Halfedges) (n p : ℕ) (A : List Float) → Sound H n p → H.numbers ≡ n * halfedge_stride → length A ≡ n → (e : ℕ) → e < n → NormalsIn H A e
normals_in H n p A s whole m e h = record {
  inside = inside s whole e h;
  here_in = omega (arith, s.triangles);
  there_in = omega (arith, s.triangles, s.paired_below e h);
}

pub faces_in : (H : Halfedges) (n p : ℕ) (P A : List Float) → Sound H n p → H.numbers ≡ n * halfedge_stride → length P ≡ p * 3 → length A ≡ n → (e : ℕ) → e < n → FacesIn H P A e
faces_in H n p P A s whole l m e h = record { edge = edge_in H n p P s whole l e h; normals = normals_in H n p A s whole m e h }

pub quad_in : (H : Halfedges) (n p : ℕ) (T : List Float) → Sound H n p → length T ≡ n * 4 → (e : ℕ) → e < n → QuadIn H T e
quad_in H n p T s l e h = record {
  here_in = omega arith;
  there_in = omega (arith, s.paired_below e h);
}

triangle_in : (H : Halfedges) (n p : ℕ) → Sound H n p → H.numbers ≡ n * halfedge_stride → (e : ℕ) → e < n → TriangleIn H e
triangle_in H n p s whole e h =
    let k = next_below n e s.triangles h in
    record {
      here = inside s whole e h;
      next = inside s whole (next_halfedge e) k;
      last = inside s whole (next_halfedge (next_halfedge e)) (next_below n (next_halfedge e) s.triangles k);
    }

pub inside_quad_in : (H : Halfedges) (n p : ℕ) (T : List Float) → Sound H n p → H.numbers ≡ n * halfedge_stride → length T ≡ n * 4 → (e : ℕ) → e < n → InsideQuadIn H T e
inside_quad_in H n p T s whole l e h = record {
  here = triangle_in H n p s whole e h;
  there = triangle_in H n p s whole (paired_halfedge H e) (s.paired_below e h);
  tangent_in = omega arith;
}

pub next_at_most : (e : ℕ) → next_halfedge e ≤ e + 1
next_at_most e = ⊎_elim (λ w. omega (arith, w.1)) (λ w. omega (arith, w.1)) (next_cases e)
