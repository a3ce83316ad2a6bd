-- What the passes that decide question 32 leave behind, a block B of halfedges at a time. Only contracts inside `pairs` cite these. s are the file's bytes.
use Rattle.std.specs.Prelude.{ℕ, ◌≤◌, ◌<◌, ◌≡◌, List, true, false, get_or, length}
use Rattle.mesh.specs.Mesh.{next_halfedge}
use Rattle.stl.specs.File.File.{halfedge_count, corner_at}
use Rattle.stl.specs.File.Edges.{is_reverse, is_paired}
use Rattle.stl.specs.Table.Keys.{first_at}
use Rattle.stl.specs.declared.pairs.TheConstants.{NONE}
use Rattle.stl.specs.declared.table.Key.{Key}
use Rattle.stl.specs.declared.table.block.Block.{Block}

-- no halfedge
abbrev pub none : ℕ
none = NONE

-- the key of the reverse of f's directed edge
abbrev pub reverse_key : List ℕ → ℕ → Key
reverse_key s f = record { start = corner_at s (next_halfedge f); end = corner_at s f }

-- the lowest of the block's halfedges that has it, counted from its first; the block's size where there is none
unfoldable pub back_at : Block → ℕ → ℕ
back_at B f = first_at B (reverse_key B.file.bytes.now f) B.count

-- v is the lowest halfedge below m that leads back to the block's halfedge k, or `none`
pub record Twin (B : Block) (m k v : ℕ) : Type 0 where
  pub top : v ≤ none
  pub some : v < none → (v < m) × (back_at B v ≡ k)
  pub least : (f : ℕ) → f < m → back_at B f ≡ k → v ≤ f

-- `worst` is a halfedge that is refused, or the count of halfedges. Of the halfedges below lo: where one has no reverse it is not below `worst`, and where one has two, these are not both below.
pub record Covered (s : List ℕ) (lo worst : ℕ) : Type 0 where
  pub bad : worst < halfedge_count s → is_paired s worst ≡ false
  pub within : worst ≤ halfedge_count s
  pub alone : (e : ℕ) → e < lo → ((f : ℕ) → f < halfedge_count s → is_reverse s e f ≡ true → ⊥) → worst ≤ e
  pub twice : (e f g : ℕ) → e < lo → f < g → g < halfedge_count s → is_reverse s e f ≡ true → is_reverse s e g ≡ true → worst ≤ f

-- the same, and the halfedges below m were looked at for the block
pub record Scanned (B : Block) (m : ℕ) (twins : List ℕ) (worst : ℕ) : Type 0 where
  pub long : B.count ≤ length twins
  pub twin : (k : ℕ) → k < B.count → Twin B m k (get_or twins k 0)
  pub covered : Covered B.file.bytes.now B.lo worst
  pub twice : (k f g : ℕ) → k < B.count → f < g → g < m → back_at B f ≡ k → back_at B g ≡ k → worst ≤ f
