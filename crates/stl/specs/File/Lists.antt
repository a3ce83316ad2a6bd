-- The lists that are filled from a file: three numbers for each point, and start, end, pair and row for each halfedge. s are the file's bytes; an item is a place of the list.
use Rattle.std.specs.Prelude.{ℕ, ◌/◌, ◌%◌, List, cond, eqb, ℤ, pos, Float}
use Rattle.float.specs.Ops.{lit32}
use Rattle.mesh.specs.Mesh.{halfedge_stride, next_halfedge}
use Rattle.stl.specs.File.File.{corner_at}
use Rattle.stl.specs.File.Points.{point_of, corner_of}
use Rattle.stl.specs.File.Edges.{pair_of}
use Rattle.stl.specs.declared.file.Corner.{Corner}

-- number k of a corner, widened
unfoldable pub coordinate : Corner → ℕ → Float
coordinate a k = lit32 (cond (eqb k 0) a.x (cond (eqb k 1) a.y a.z))

-- number i % 3 of point i / 3
unfoldable pub point_item : List ℕ → ℕ → Float
point_item s i = coordinate (corner_at s (corner_of s (i / 3))) (i % 3)

-- number k of halfedge e; its row is its own number
unfoldable pub halfedge_number : List ℕ → ℕ → ℕ → ℕ
halfedge_number s e k =
    cond (eqb k 0) (point_of s e)
    (cond (eqb k 1) (point_of s (next_halfedge e))
    (cond (eqb k 2) (pair_of s e) e))

unfoldable pub halfedge_item : List ℕ → ℕ → ℤ
halfedge_item s i = pos (halfedge_number s (i / halfedge_stride) (i % halfedge_stride))
