-- The directed edges of a file: halfedge e runs from corner e to corner `next_halfedge e`. s are the file's bytes.
use Rattle.std.specs.Prelude.{ℕ, List, Bool, not, ◌&&◌, eqb, ltb}
use Rattle.common.specs.Count.{count_below}
use Rattle.common.specs.Lowest.{lowest}
use Rattle.mesh.specs.Mesh.{next_halfedge}
use Rattle.stl.specs.File.File.{halfedge_count}
use Rattle.stl.specs.File.Points.{same_point}

-- e and f have one directed edge
unfoldable pub same_edge : List ℕ → ℕ → ℕ → Bool
same_edge s e f = same_point s e f && same_point s (next_halfedge e) (next_halfedge f)

-- the directed edge of f is the reverse of that of e
unfoldable pub is_reverse : List ℕ → ℕ → ℕ → Bool
is_reverse s e f = same_point s e (next_halfedge f) && same_point s (next_halfedge e) f

-- the lowest halfedge with the reverse of e's directed edge, and the count of halfedges where there is none
unfoldable pub pair_of : List ℕ → ℕ → ℕ
pair_of s e = lowest (λ f. not (is_reverse s e f)) (halfedge_count s)

-- question 32 of halfedge e: does its directed edge occur once, and has it a reverse?
unfoldable pub is_paired : List ℕ → ℕ → Bool
is_paired s e = eqb (count_below (same_edge s e) (halfedge_count s)) 1 && ltb (pair_of s e) (halfedge_count s)
