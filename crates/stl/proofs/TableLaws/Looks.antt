-- The loop of `look`: it goes down the walk, and node numbers rise, so it ends. Assumes nothing.
use Prim.Native.Nat.{ℕ, zero, suc, ◌+◌, ◌*◌, ◌-◌, ◌%◌, ◌≤◌, ◌<◌}
use native.Mathlib.Omega.{arith}
use mathlib.Core.Path.{◌≡◌, refl, sym, ◌∙◌}
use mathlib.Core.List.{List}
use mathlib.Core.Bool.{true, false, cond}
use borrow.Author.Tests.{eq-eqb, ne_eqb}
use lib.Dec.{eqb}
use lib.ListN.{get_or, length}
use Rattle.std.specs.Prelude.{Result, Ok, Err}
use Rattle.stl.specs.Table.Size.{roots}
use Rattle.stl.specs.Table.Keys.{has_key}
use Rattle.stl.specs.Table.Tree.{root_of, tag_of, tag_at, child_of, Walk, empty, found, on, Ends, Indexed}
use Rattle.stl.specs.declared.table.Key.{Key}
use Rattle.stl.specs.declared.table.Path.{Path}
use Rattle.stl.specs.declared.table.block.Block.{Block}

pub start_slot : (key : Key) → (root_of key).slot < roots
unfolding root_of
start_slot key = omega arith

pub step_slot : (key : Key) (m k : ℕ) (at : Path) → k < m → (child_of key k at).slot < roots + 2 * m
unfolding child_of
step_slot key m k at h = omega arith

step_is : (key : Key) (k : ℕ) (at : Path) → (child_of key k at).slot ≡ roots + 2 * k + at.bits % 2
unfolding child_of
step_is key k at = refl

-- how many nodes are left from a node on
unfoldable pub left : ℕ → ℕ → ℕ
left m node = cond (eqb node 0) 0 (m + 1 - node)

-- the walk stands at a path: what it will end at from there is what it ends at from the start
pub record Going (B : Block) (m : ℕ) (T : List ℕ) (key : Key) (at : Path) (node : ℕ) : Type 0 where
  pub slot_low : at.slot < roots + 2 * m
  pub node_is : node ≡ get_or T at.slot 0
  pub rest : (r : Result ℕ ℕ) → Walk T (child_of key) (has_key B key) at r → Ends B T key r

slot_in : {B : Block} {m : ℕ} {T G : List ℕ} → Indexed B m T G → (slot : ℕ) → slot < roots + 2 * m → slot < length T
slot_in {B} ix slot h = omega (arith, ix.size, ix.within, B.small)

start_low : (key : Key) (m : ℕ) {at : Path} → at ≡ root_of key → at.slot < roots + 2 * m
start_low key m {at} e = let l : at.slot < roots = rw e (start_slot key) in omega arith

pub start_in : {B : Block} {m : ℕ} {T G : List ℕ} → Indexed B m T G → (key : Key) {at : Path} → at ≡ root_of key → at.slot < length T
start_in {m} ix key {at} e = slot_in ix at.slot (start_low key m e)

module _ {B : Block} {m : ℕ} {T G : List ℕ} (ix : Indexed B m T G) {key : Key} where
  pub going_start : {at : Path} {node : ℕ} → at ≡ root_of key → node ≡ get_or T at.slot 0 → Going B m T key at node
  going_start {at} {node} e n = record { slot_low = start_low key m e; node_is = n; rest = λ r w. rw e at w }

  module _ {at : Path} {node : ℕ} (g : Going B m T key at node) where
    pub going_node : node ≤ m
    going_node = omega (arith, ix.below at.slot, g.node_is)

    node_at : (node ≡ 0 → ⊥) → get_or T at.slot 0 ≡ suc (node - 1)
    node_at z = sym g.node_is ∙ (omega arith)

    -- what the test of a node asks for
    pub going_tag : (node ≡ 0 → ⊥) → {start : Path} {tag : ℕ} → start ≡ root_of key → tag ≡ tag_of start → (node - 1 < B.count) × (node - 1 < length G) × (get_or G (node - 1) 0 ≡ tag_at B (node - 1)) × (tag ≡ tag_of (root_of key))
    going_tag z r t =
        let h : node - 1 < m = omega (arith, going_node) in
        (omega (arith, ix.within), omega (arith, ix.within, ix.tags), ix.tagged (node - 1) h, rw r at t)

    pub going_found : (node ≡ 0 → ⊥) → has_key B key (node - 1) ≡ true → Ends B T key (Ok (node - 1))
    going_found z h = g.rest (Ok (node - 1)) (found (node_at z) h)

    pub going_empty : node ≡ 0 → Ends B T key (Err at.slot)
    going_empty z = g.rest (Err at.slot) (empty (sym g.node_is ∙ z))

    module _ (z : node ≡ 0 → ⊥) {next : Path} (e : next ≡ child_of key (node - 1) at) where
      step_low : next.slot < roots + 2 * m
      step_low = rw e (step_slot key m (node - 1) at (omega (arith, going_node)))

      pub step_in : next.slot < length T
      step_in = slot_in ix next.slot step_low

      module _ {after : ℕ} (n : after ≡ get_or T next.slot 0) where
        pub going_on : has_key B key (node - 1) ≡ false → Going B m T key next after
        going_on h = record { slot_low = step_low; node_is = n; rest = λ r w. g.rest r (on (node_at z) h (rw e at w)) }

        -- the next node is none or a later one
        later : (after ≡ 0 → ⊥) → node < after
        later y =
            let p : next.slot ≡ roots + 2 * (node - 1) + at.bits % 2 = rw e (step_is key (node - 1) at) in
            let v : get_or T (roots + 2 * (node - 1) + at.bits % 2) 0 ≡ suc (after - 1) = rw (← p) (sym n ∙ (omega arith)) in
            let b : at.bits % 2 ≤ 1 = omega arith in
            omega (arith, ix.rising (node - 1) (at.bits % 2) (after - 1) b v)

        pub going_less : left m after < left m node
        unfolding left
        going_less = rw (ne_eqb node 0 z) (go after refl)
          where
            go : (a : ℕ) → after ≡ a → cond (eqb after 0) 0 (m + 1 - after) < m + 1 - node
            go zero y = rw (eq-eqb after 0 y) (omega (arith, going_node))
            go (suc a) y = let u : after ≡ 0 → ⊥ = λ x. omega arith in rw (ne_eqb after 0 u) (omega (arith, later u, going_node, ix.below next.slot))
