-- The walk through the table: it has one end, and filling an empty slot keeps every walk that found its node. Assumes nothing.
use Prim.Native.Nat.{ℕ, suc, ◌≤◌, ◌<◌}
use native.Mathlib.Omega.{arith}
use mathlib.Core.Path.{◌≡◌, ap, ◌∙◌}
use mathlib.Core.List.{List}
use mathlib.Core.Bool.{Bool, true}
use lib.ListN.{get_or, length, set}
use lib.Seq.{get_or-set_same, get_or-set_other}
use Rattle.std.specs.Prelude.{Result, Ok, Err}
use Rattle.stl.specs.Table.Tree.{Walk, empty, found, on}
use Rattle.stl.specs.declared.table.Path.{Path}

module _ (T : List ℕ) (step : ℕ → Path → Path) (hit : ℕ → Bool) where
  -- one end for each walk
  pub walk_same : {at : Path} {j : ℕ} {r : Result ℕ ℕ} → Walk T step hit at (Ok j) → Walk T step hit at r → r ≡ Ok j
  walk_same (found e h) (empty e') = absurd (omega arith)
  walk_same (found {k} e h) (found {k = k'} e' h') = let q : k' ≡ k = omega arith in ap Ok q
  walk_same (found {k} e h) (on {k = k'} e' h' w) = let q : k' ≡ k = omega arith in let z : ◌≡◌ {A = ℕ} 0 1 = cc in absurd (omega arith)
  walk_same (on e h w) (empty e') = absurd (omega arith)
  walk_same (on {k} e h w) (found {k = k'} e' h') = let q : k' ≡ k = omega arith in let z : ◌≡◌ {A = ℕ} 0 1 = cc in absurd (omega arith)
  walk_same (on {at} {k} {r} e h w) (on {k = k'} {r = r'} e' h' w') = let q : k' ≡ k = omega arith in walk_same w (rw q at w')

  pub walk_hit : {at : Path} {j : ℕ} → Walk T step hit at (Ok j) → hit j ≡ true
  walk_hit (found e h) = h
  walk_hit (on e h w) = walk_hit w

  pub walk_empty : {at : Path} {i : ℕ} → Walk T step hit at (Err i) → get_or T i 0 ≡ 0
  walk_empty (empty e) = e
  walk_empty (on e h w) = walk_empty w

  module _ (m : ℕ) (below : (i : ℕ) → get_or T i 0 ≤ m) where
    pub walk_below : {at : Path} {j : ℕ} → Walk T step hit at (Ok j) → j < m
    walk_below (found {at} e h) = omega (arith, below at.slot)
    walk_below (on e h w) = walk_below w

    -- the empty slot is below a bound that all slots of the walk keep
    pub walk_slot : (bound : ℕ) → ((k : ℕ) (at : Path) → k < m → (step k at).slot < bound) → {at : Path} {i : ℕ} → at.slot < bound → Walk T step hit at (Err i) → i < bound
    walk_slot bound f h (empty e) = h
    walk_slot bound f h (on {at} {k} e h' w) = walk_slot bound f (f k at (omega (arith, below at.slot))) w

  -- filling the empty slot i
  module _ (i v : ℕ) (free : get_or T i 0 ≡ 0) where
    other_slot : (x k : ℕ) → get_or T x 0 ≡ suc k → get_or (set T i v) x 0 ≡ suc k
    other_slot x k e = get_or-set_other T i x v 0 (λ q. let z : get_or T i 0 ≡ suc k = rw q at e in absurd (omega arith)) ∙ e

    pub fill_kept : {at : Path} {j : ℕ} → Walk T step hit at (Ok j) → Walk (set T i v) step hit at (Ok j)
    fill_kept (found {at} {k} e h) = found (other_slot at.slot k e) h
    fill_kept (on {at} {k} e h w) = on (other_slot at.slot k e) h (fill_kept w)

  pub fill_new : (k : ℕ) → hit k ≡ true → {at : Path} {i : ℕ} → i < length T → Walk T step hit at (Err i) → Walk (set T i (suc k)) step hit at (Ok k)
  fill_new k h {at} l (empty e) = found (get_or-set_same T at.slot (suc k) 0 l) h
  fill_new k h {at} {i} l (on {k = k'} e h' w) = on (other_slot i (suc k) (walk_empty w) at.slot k' e) h' (fill_new k h l w)
