-- Laws of keys: places have equal keys exactly where their ends are equal. Assumes nothing.
use Prim.Native.Nat.{ℕ, ◌*◌, ◌<◌}
use native.Mathlib.Omega.{arith}
use mathlib.Core.Path.{◌≡◌, refl, ap}
use mathlib.Core.Bool.{Bool, true, false}
use Rattle.std.proofs.lemmas.Bool.{and_parts, and_from}
use Rattle.mesh.specs.Mesh.{next_halfedge}
use Rattle.mesh.proofs.Halfedges.{next_below}
use Rattle.stl.specs.File.Points.{same_corner}
use Rattle.stl.proofs.FileLaws.Points.{corner_equal, corner_same}
use Rattle.stl.specs.Table.Keys.{same_key}
use Rattle.stl.specs.Table.Tree.{root_of, tag_of}
use Rattle.stl.specs.declared.table.Key.{Key}

-- the next halfedge of the triangle is one of the file's, too
pub next_in : (t p : ℕ) {e : ℕ} → e ≡ next_halfedge p → p < 3 * t → e < 3 * t
next_in t p q h = rw q (next_below (3 * t) p (omega arith) h)

pub key_equal : (k l : Key) → same_key k l ≡ true → k ≡ l
unfolding same_key
key_equal k l e =
    let p = and_parts (same_corner k.start l.start) (same_corner k.end l.end) e in
    let x : k.start ≡ l.start = corner_equal _ _ p.0 in
    let y : k.end ≡ l.end = corner_equal _ _ p.1 in
    let w : ◌≡◌ {A = Key} (record { start = k.start; end = k.end }) (record { start = l.start; end = l.end }) = rw (x, y) in
    w

-- keys with other tags are not the same
pub key_other : (k l : Key) → (tag_of (root_of k) ≡ tag_of (root_of l) → ⊥) → same_key k l ≡ false
key_other k l d = go (same_key k l) refl
  where
    go : (b : Bool) → same_key k l ≡ b → same_key k l ≡ false
    go true e = absurd (d (ap (λ (q : Key). tag_of (root_of q)) (key_equal k l e)))
    go false e = e

pub key_same : (k : Key) → same_key k k ≡ true
unfolding same_key
key_same k = and_from _ _ (corner_same k.start) (corner_same k.end)
