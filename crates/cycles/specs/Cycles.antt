-- Vertex cycles: the halfedges that leave one point, reached one from the other by going to the pair and then to the next in that triangle.
use Rattle.std.specs.Prelude.{ℕ, ◌≤◌, ◌<◌, ◌≡◌, Bool, List, length, Ok}
use Rattle.mesh.specs.Mesh.{start_vert, paired_halfedge, next_halfedge, prev_halfedge, Halfedges}
use Rattle.questions.specs.Check.{check_mesh}
use Rattle.cycles.specs.Count.{count, ◌∈◌}
use Rattle.cycles.specs.Walk.{cycle_of}
use Rattle.cycles.specs.Orbits.{Orbits}

-- the next halfedge around the start point of e, and the previous one
unfoldable pub next_around : Halfedges → ℕ → ℕ
next_around H e = next_halfedge (paired_halfedge H e)

unfoldable pub prev_around : Halfedges → ℕ → ℕ
prev_around H e = paired_halfedge H (prev_halfedge e)

-- `collect_vertex_cycle` over n halfedges: the vertex cycle of e, e first. Question 4 rules out the Rust's break at a negative pair.
abbrev pub vertex_cycle : Halfedges → ℕ → ℕ → List ℕ
vertex_cycle H n e = cycle_of (next_around H) n e

-- the same the other way round
abbrev pub vertex_cycle_back : Halfedges → ℕ → ℕ → List ℕ
vertex_cycle_back H n e = cycle_of (prev_around H) n e

-- What an accepted mesh has (`AcceptedCycles`). Its walks forward and backward have all that `Orbits` says; each step undoes the other and stays at the start point.
pub record Cycles (H : Halfedges) (n : ℕ) : Type 0 where
  pub forward : Orbits (next_around H) n
  pub backward : Orbits (prev_around H) n
  pub prev_next : (e : ℕ) → e < n → prev_around H (next_around H e) ≡ e
  pub next_prev : (e : ℕ) → e < n → next_around H (prev_around H e) ≡ e
  pub next_start : (e : ℕ) → e < n → start_vert H (next_around H e) ≡ start_vert H e
  pub prev_start : (e : ℕ) → e < n → start_vert H (prev_around H e) ≡ start_vert H e
  -- a vertex cycle leaves one point, has at least two halfedges, and has the same halfedges both ways
  pub cycle_start : (e x : ℕ) → e < n → x ∈ vertex_cycle H n e → start_vert H x ≡ start_vert H e
  pub cycle_two : (e : ℕ) → e < n → 2 ≤ length (vertex_cycle H n e)
  pub cycle_ways : (e x : ℕ) → e < n → count x (vertex_cycle_back H n e) ≡ count x (vertex_cycle H n e)

-- every mesh that the questions accept has that
abbrev pub AcceptedCycles : Type 0
AcceptedCycles = (H : Halfedges) (n p : ℕ) (lengths : Bool) → check_mesh H n p lengths ≡ Ok tt → Cycles H n
