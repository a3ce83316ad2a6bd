-- The marks of a block of points say which corners are the first of their points. Assumes nothing.
use Prim.Native.Nat.{ℕ, suc, ◌+◌, ◌*◌, ◌≤◌, ◌<◌}
use native.Mathlib.Omega.{arith}
use native.Mathlib.Nat.{eq-or-lt_of_le}
use mathlib.Core.Path.{◌≡◌, refl, sym, ap, ◌∙◌}
use mathlib.Core.List.{List}
use mathlib.Core.Logic.{◌⊎◌, inl, inr}
use mathlib.Core.Bool.{Bool, true, false}
use lib.ListN.{get_or}
use lib.Dec.{eqb, leb}
use mir.Val.{bool_byte}
use Rattle.std.proofs.lemmas.Bool.{le-leb, eq-eqb, ne_eqb, eqb-true, eqb-false}
use Rattle.common.specs.Count.{count_below}
use Rattle.common.proofs.Count.{count_yes, count_no, count_within}
use Rattle.stl.specs.File.File.{halfedge_count, corner_at}
use Rattle.stl.specs.File.Points.{first_of, is_first, point_count}
use Rattle.stl.specs.declared.file.File.{File}
use Rattle.stl.proofs.FileLaws.Points.{first_within, first_least, first_corner}
use Rattle.stl.specs.Table.Keys.{key_at}
use Rattle.stl.specs.declared.table.Key.{Key}
use Rattle.stl.specs.declared.table.Keys.TheVariants.{Points}
use Rattle.stl.specs.declared.table.block.Block.{Block}
use Rattle.stl.specs.Points.Firsts.{Near, Marked}

module _ (s : List ℕ) where
  -- places have equal keys exactly where their corners are equal
  key_corner : (i j : ℕ) → key_at s Points i ≡ key_at s Points j → corner_at s i ≡ corner_at s j
  unfolding key_at
  key_corner i j e = ap (λ (k : Key). k.start) e

  corner_key : (i j : ℕ) → corner_at s i ≡ corner_at s j → key_at s Points i ≡ key_at s Points j
  unfolding key_at
  corner_key i j e = rw e

  near_first : (c r : ℕ) → Near s Points 0 c r → r ≡ c → is_first s c ≡ true
  unfolding is_first
  near_first c r n e = go (eq-or-lt_of_le (first_within s c))
    where
      go : (first_of s c ≡ c) ⊎ (first_of s c < c) → eqb (first_of s c) c ≡ true
      go (inl q) = eq-eqb _ _ q
      go (inr l) = absurd (n.alone e (first_of s c) (omega arith) l (corner_key (first_of s c) c (first_corner s c)))

  near_later : (c r : ℕ) → Near s Points 0 c r → (r ≡ c → ⊥) → is_first s c ≡ false
  unfolding is_first
  near_later c r n e = let f = first_least s c r (key_corner r c n.same) in let b = n.below in ne_eqb (first_of s c) c (λ (q : first_of s c ≡ c). e (omega arith))

module _ (B : Block) (first : List ℕ) (points : B.keys ≡ Points) (marked : Marked B 0 first) (k : ℕ) (h : k < B.count) where
  near : Near B.file.bytes.now Points 0 (B.lo + k) (get_or first k 0)
  unfolding Marked
  near = rw points at (marked k h)

  pub mark_first : get_or first k 0 ≡ B.lo + k → is_first B.file.bytes.now (B.lo + k) ≡ true
  mark_first e = near_first B.file.bytes.now (B.lo + k) (get_or first k 0) near e

  pub mark_later : (get_or first k 0 ≡ B.lo + k → ⊥) → is_first B.file.bytes.now (B.lo + k) ≡ false
  mark_later e = near_later B.file.bytes.now (B.lo + k) (get_or first k 0) near e

  pub mark_below : get_or first k 0 ≤ B.lo + k
  mark_below = near.below

  pub mark_corner : corner_at B.file.bytes.now (get_or first k 0) ≡ corner_at B.file.bytes.now (B.lo + k)
  mark_corner = key_corner B.file.bytes.now _ _ near.same

  -- one more corner is counted, by its mark
  module _ {v b : ℕ} (e : v ≡ count_below (is_first B.file.bytes.now) (B.lo + k)) (t : b ≡ bool_byte (eqb (get_or first k 0) (B.lo + k))) where
    pub count_next : v + b ≡ count_below (is_first B.file.bytes.now) (B.lo + (k + 1))
    count_next = go (eqb (get_or first k 0) (B.lo + k)) refl t
      where
        step : B.lo + (k + 1) ≡ suc (B.lo + k)
        step = omega arith

        go : (x : Bool) → eqb (get_or first k 0) (B.lo + k) ≡ x → b ≡ bool_byte x → v + b ≡ count_below (is_first B.file.bytes.now) (B.lo + (k + 1))
        go true q z = rw (step, count_yes (is_first B.file.bytes.now) (B.lo + k) (mark_first (eqb-true _ _ q))) (omega arith)
        go false q z = rw (step, count_no (is_first B.file.bytes.now) (B.lo + k) (mark_later (eqb-false _ _ q))) (omega arith)

    pub count_few : v + b ≤ B.lo + (k + 1)
    count_few = omega (arith, count_next, count_within (is_first B.file.bytes.now) (B.lo + (k + 1)))

module _ (F : File) where
  -- once no corner is left, the points are counted
  pub counted_all : (lo v : ℕ) → v ≡ count_below (is_first F.bytes.now) lo → lo ≡ 3 * F.triangles → v ≡ point_count F.bytes.now
  unfolding point_count
  counted_all lo v e q = let z : lo ≡ halfedge_count F.bytes.now = omega (arith, F.counted) in e ∙ ap (count_below (is_first F.bytes.now)) z

  -- there are no more points than corners
  pub points_within : (m : ℕ) → 3 * F.triangles ≤ m → true ≡ leb (point_count F.bytes.now) m
  unfolding point_count
  points_within m h = sym (le-leb _ _ (omega (arith, F.counted, count_within (is_first F.bytes.now) (halfedge_count F.bytes.now))))
