-- The lower place of each place of a block B that has its key, as it comes about. Only contracts inside `points` cite these.
use Rattle.std.specs.Prelude.{ℕ, ◌+◌, ◌≤◌, ◌<◌, ◌≡◌, List, get_or}
use Rattle.stl.specs.Table.Keys.{key_at, first_at}
use Rattle.stl.specs.declared.table.Keys.{Keys}
use Rattle.stl.specs.declared.table.block.Block.{Block}

-- of the block's first m places, `first` has the lowest place in the block with the key of each
abbrev pub InBlock : Block → ℕ → List ℕ → Type 0
InBlock B m first =
    (k : ℕ) → k < m → get_or first k 0 ≡ B.lo + first_at B (key_at B.file.bytes.now B.keys (B.lo + k)) k

-- r is a place at or below c with its key, and is c itself only where none from j on and below c has it
pub record Near (s : List ℕ) (keys : Keys) (j c r : ℕ) : Type 0 where
  pub below : r ≤ c
  pub same : key_at s keys r ≡ key_at s keys c
  pub alone : r ≡ c → (i : ℕ) → j ≤ i → i < c → key_at s keys i ≡ key_at s keys c → ⊥

-- `first` has such a place for each of the block's
unfoldable pub Marked : Block → ℕ → List ℕ → Type 0
Marked B j first = (k : ℕ) → k < B.count → Near B.file.bytes.now B.keys j (B.lo + k) (get_or first k 0)
