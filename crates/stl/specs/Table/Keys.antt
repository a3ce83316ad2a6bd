-- The keys of places, and the lowest place of a block that has one. Only contracts inside the reading of STL cite these.
use Rattle.std.specs.Prelude.{ℕ, ◌+◌, List, Bool, not, ◌&&◌}
use Rattle.mesh.specs.Mesh.{next_halfedge}
use Rattle.common.specs.Lowest.{lowest}
use Rattle.stl.specs.File.File.{corner_at}
use Rattle.stl.specs.File.Points.{same_corner}
use Rattle.stl.specs.declared.table.Key.{Key}
use Rattle.stl.specs.declared.table.Keys.{Keys}
use Rattle.stl.specs.declared.table.Keys.TheVariants.{Points, Edges}
use Rattle.stl.specs.declared.table.block.Block.{Block}

-- the key of place p: its corner twice, or the two ends of its directed edge
unfoldable pub key_at : List ℕ → Keys → ℕ → Key
key_at s Points p = record { start = corner_at s p; end = corner_at s p }
key_at s Edges p = record { start = corner_at s p; end = corner_at s (next_halfedge p) }

unfoldable pub same_key : Key → Key → Bool
same_key k l = same_corner k.start l.start && same_corner k.end l.end

-- place k of the block has the key
abbrev pub has_key : Block → Key → ℕ → Bool
has_key B key k = same_key (key_at B.file.bytes.now B.keys (B.lo + k)) key

-- the lowest of the block's first m places that has the key, and m where there is none
abbrev pub first_at : Block → Key → ℕ → ℕ
first_at B key m = lowest (λ k. not (has_key B key k)) m
