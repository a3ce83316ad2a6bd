-- What the writing of ends, pairs and rows goes by. Only contracts inside `pairs` and its call cite these. s are the file's bytes, L is the list of halfedges.
use Rattle.std.specs.Prelude.{ℕ, ◌+◌, ◌*◌, ◌%◌, ◌≤◌, ◌<◌, ◌≡◌, ◌⊎◌, List, true, get_or, length, ℤ, pos}
use Rattle.mesh.specs.Mesh.{halfedge_stride, next_halfedge}
use Rattle.stl.specs.File.File.{halfedge_count}
use Rattle.stl.specs.File.Points.{point_of}
use Rattle.stl.specs.File.Edges.{pair_of, is_paired}
use Rattle.stl.specs.File.Starts.{Starts}
use Rattle.stl.specs.declared.file.File.{File}
use Rattle.stl.specs.Table.Tree.{Indexed}
use Rattle.stl.specs.declared.table.Keys.TheVariants.{Edges}
use Rattle.stl.specs.declared.table.block.Block.{Block}

-- question 32 of all halfedges
abbrev pub AllPaired : List ℕ → Type 0
AllPaired s = (e : ℕ) → e < halfedge_count s → is_paired s e ≡ true

-- the halfedges below e have their ends and rows
abbrev pub EndsRows : List ℕ → ℕ → List ℤ → Type 0
EndsRows s e L =
    (i : ℕ) → i < e → (get_or L (i * halfedge_stride + 1) (pos 0) ≡ pos (point_of s (next_halfedge i))) × (get_or L (i * halfedge_stride + 3) (pos 0) ≡ pos i)

-- what the writing of halfedge e's end asks for
pub record CanEnd (file : File) (e : ℕ) (L : List ℤ) : Type 0 where
  pub inside : e < 3 * file.triangles
  pub started : Starts file.bytes.now (3 * file.triangles) L
  pub ended : EndsRows file.bytes.now e L
  pub room : 12 * file.triangles ≤ length L

-- ---- pairs

-- halfedge e or its pair is below lo
abbrev pub Below : List ℕ → ℕ → ℕ → Type 0
Below s lo e = (e < lo) ⊎ (pair_of s e < lo)

-- the same, or one of the two is the block's and the other below m
abbrev pub Done : Block → ℕ → ℕ → Type 0
Done B m e =
    Below B.file.bytes.now B.lo e
    ⊎ ((e < B.lo + B.count) × (pair_of B.file.bytes.now e < m))
    ⊎ ((pair_of B.file.bytes.now e < B.lo + B.count) × (e < m))

-- such halfedges have their pairs
abbrev pub Paired : List ℕ → (ℕ → Type 0) → List ℤ → Type 0
Paired s Such L = (e : ℕ) → e < halfedge_count s → Such e → get_or L (e * halfedge_stride + 2) (pos 0) ≡ pos (pair_of s e)

-- a list as long, with the same at the places from k on, and before them in all numbers but pairs
abbrev pub Kept : ℕ → List ℤ → List ℤ → Type 0
Kept k old new = (length new ≡ length old) × ((i : ℕ) → ((i % halfedge_stride ≡ 2 → ⊥) ⊎ (k ≤ i)) → get_or new i (pos 0) ≡ get_or old i (pos 0))

-- what the writing of pairs goes by, where the halfedges of the block and after it are done up to f
pub record CanPair (B : Block) (T G : List ℕ) (f : ℕ) (L : List ℤ) : Type 0 where
  pub edges_keys : B.keys ≡ Edges
  pub indexed : Indexed B B.count T G
  pub all : AllPaired B.file.bytes.now
  pub paired : Paired B.file.bytes.now (Done B f) L
  pub room : 12 * B.file.triangles ≤ length L
