-- The starts of the halfedges in their list, which are written before the rest. Only contracts inside the reading of STL cite these. s are the file's bytes, L is the list of halfedges.
use Rattle.std.specs.Prelude.{ℕ, ◌*◌, ◌≤◌, ◌<◌, ◌≡◌, List, length, get_or, ℤ, pos}
use Rattle.mesh.specs.Mesh.{halfedge_stride}
use Rattle.stl.specs.File.Points.{point_of}

-- the halfedges below e start at their points
abbrev pub Starts : List ℕ → ℕ → List ℤ → Type 0
Starts s e L = (i : ℕ) → i < e → get_or L (i * halfedge_stride) (pos 0) ≡ pos (point_of s i)

-- a list as long, with the same at the places from k on
abbrev pub Further : ℕ → List ℤ → List ℤ → Type 0
Further k old new = (length new ≡ length old) × ((i : ℕ) → k ≤ i → get_or new i (pos 0) ≡ get_or old i (pos 0))
