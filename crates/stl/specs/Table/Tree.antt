-- The table as a tree: how a walk goes through it, and when it holds the first places of a block. Only contracts inside `table` cite the first part.
use Rattle.std.specs.Prelude.{ℕ, suc, ◌+◌, ◌*◌, ◌/◌, ◌%◌, ◌≤◌, ◌<◌, ◌≡◌, List, Bool, true, false, cond, length, get_or, eqb, Result, Ok, Err}
use Rattle.stl.specs.Table.Size.{roots, slots}
use Rattle.stl.specs.Table.Keys.{key_at, has_key}
use Rattle.stl.specs.declared.table.Key.{Key}
use Rattle.stl.specs.declared.table.Path.{Path}
use Rattle.stl.specs.declared.table.block.Block.{Block}

-- ---- the way of a key: any definition would do, as no result depends on it
unfoldable pub hash_of : Key → ℕ
hash_of key =
    (key.start.x * 0x1e37_79b1 + key.start.y * 0x15eb_ca77 + key.start.z * 0x1a85_ebcb
    + (key.end.x * 0x12b2_ae3d + key.end.y * 0x0765_71f7 + key.end.z * 0x1165_667b)) % 4294967291

unfoldable pub root_of : Key → Path
root_of key = record { slot = hash_of key % roots; bits = hash_of key / roots; depth = 0 }

-- the tag of a key whose walk begins at a path: the upper 8 bits of its hash
unfoldable pub tag_of : Path → ℕ
tag_of at = at.bits / 128 % 256

-- the tag of the key of place k of the block
abbrev pub tag_at : Block → ℕ → ℕ
tag_at B k = tag_of (root_of (key_at B.file.bytes.now B.keys (B.lo + k)))

-- number i of the key, from 1 on
unfoldable pub word_of : Key → ℕ → ℕ
word_of key i =
    cond (eqb i 1) key.start.x (cond (eqb i 2) key.start.y (cond (eqb i 3) key.start.z
    (cond (eqb i 4) key.end.x (cond (eqb i 5) key.end.y (cond (eqb i 6) key.end.z 0)))))

-- from the slot of node k to that of its child
unfoldable pub child_of : Key → ℕ → Path → Path
child_of key k at =
    let depth = at.depth % 256 + 1 in
    record {
      slot = roots + 2 * k + at.bits % 2;
      bits = cond (eqb (depth % 32) 0) (word_of key (depth / 32)) (at.bits / 2);
      depth = depth;
    }

-- ---- walks
-- From a path on, the walk through the table T ends so: at a node that is a hit (Ok), or at an empty slot (Err). `step` leads from a node to its child.
pub data Walk (T : List ℕ) (step : ℕ → Path → Path) (hit : ℕ → Bool) : Path → Result ℕ ℕ → Type 0 where
  empty : {at : Path} → get_or T at.slot 0 ≡ 0 → Walk T step hit at (Err at.slot)
  found : {at : Path} {k : ℕ} → get_or T at.slot 0 ≡ suc k → hit k ≡ true → Walk T step hit at (Ok k)
  on : {at : Path} {k : ℕ} {r : Result ℕ ℕ} → get_or T at.slot 0 ≡ suc k → hit k ≡ false → Walk T step hit (step k at) r → Walk T step hit at r

-- the walk of a key ends so
abbrev pub Ends : Block → List ℕ → Key → Result ℕ ℕ → Type 0
Ends B T key r = Walk T (child_of key) (has_key B key) (root_of key) r

-- The table T holds the keys of the block's first m places, and G their tags. A child is a later node than its parent, so that walks end; and the walk of each place's key ends at a place no higher.
pub record Indexed (B : Block) (m : ℕ) (T G : List ℕ) : Type 0 where
  pub size : length T ≡ slots
  pub within : m ≤ B.count
  pub below : (i : ℕ) → get_or T i 0 ≤ m
  pub tags : B.count ≤ length G
  pub tagged : (k : ℕ) → k < m → get_or G k 0 ≡ tag_at B k
  pub rising : (k b v : ℕ) → b ≤ 1 → get_or T (roots + 2 * k + b) 0 ≡ suc v → k < v
  pub complete : (k : ℕ) → k < m → (j : ℕ) × (j ≤ k) × Ends B T (key_at B.file.bytes.now B.keys (B.lo + k)) (Ok j)
