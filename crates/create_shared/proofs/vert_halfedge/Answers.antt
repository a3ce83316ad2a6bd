-- `create_shared::vert_halfedge` meets its contract. The invariant: each place holds the lowest of the halfedges passed, from the last one down. Assumes nothing.
use Prim.Native.Nat.{ℕ, ◌+◌, ◌-◌, ◌≤◌, ◌<◌}
use native.Mathlib.Omega.{arith}
use mathlib.Core.Path.{refl, sym, ◌∙◌, ◌≡◌}
use mathlib.Core.List.{List}
use mathlib.Core.Bool.{Bool, true, false, not}
use lib.Dec.{eqb}
use lib.ListN.{set, length, get_or}
use lib.Seq.{get_or-set_same, get_or-set_other}
use borrow.Author.Tests.{eqb-true, eqb-false}
use Rattle.mesh.specs.Mesh.{start_vert, Halfedges, as_halfedges}
use Rattle.common.proofs.Lowest.{lowest_start, lowest_yes, lowest_no, lowest_end}
use Rattle.common.specs.Lowest.{lowest_from}
use Rattle.create_shared.specs.Verts.{vert_halfedge, starts_elsewhere}
use Rattle.common.proofs.Filled.{filled_at}
use Rattle.create_shared.proofs.vert_halfedge.Goals as goal

first_put : (H : Halfedges) (n : ℕ) (L : List ℕ) (u e v : ℕ) → 0 < e → e ≤ n → v < length L → u ≡ start_vert H (e - 1) → get_or L v 0 ≡ lowest_from (starts_elsewhere H v) (n - e) e → get_or (set L u (e - 1)) v 0 ≡ lowest_from (starts_elsewhere H v) (n - (e - 1)) (e - 1)
first_put H n L u e v p le l s i = go (eqb u v) refl
  where
    below : e - 1 < n
    below = omega arith

    go : (b : Bool) → eqb u v ≡ b → get_or (set L u (e - 1)) v 0 ≡ lowest_from (starts_elsewhere H v) (n - (e - 1)) (e - 1)
    go true q =
        let w : u ≡ v = eqb-true u v q in
        let no : not (eqb (start_vert H (e - 1)) v) ≡ false = rw (← s, q) in
        rw w (get_or-set_same L v (e - 1) 0 l) ∙ sym (lowest_no (starts_elsewhere H v) n (e - 1) below no)
    go false q =
        let yes : not (eqb (start_vert H (e - 1)) v) ≡ true = rw (← s, q) in
        let k : e - 1 + 1 ≡ e = omega arith in
        let m = lowest_yes (starts_elsewhere H v) n (e - 1) below yes in
        get_or-set_other L u v (e - 1) 0 (λ w. eqb-false u v q (sym w)) ∙ i ∙ sym (rw k at m)

pub loop-e-init : goal.loop-e-init
loop-e-init c =
    let n = c.args.n in
    λ v l. filled_at c.fill.new.self (length c.args.at.now) n 0 v (c.fill.ensures.after (λ y e. e)) l ∙ sym (lowest_end (starts_elsewhere (as_halfedges c.args.h.now) v) n n (omega arith))

pub loop-e-preserved : goal.loop-e-preserved
loop-e-preserved c =
    let l = c.loop-e in
    let a = c.args in
    λ v h. first_put (as_halfedges a.h.now) a.n l.at c.start_vert-v.result l.e v (omega arith) (omega arith) (omega arith) c.start_vert-v.ensures (l.invariant v h)

pub returns : goal.returns
unfolding vert_halfedge
returns c =
    λ v h.
    let l = c.loop-e in
    let z : l.e ≡ 0 = omega arith in
    let i = l.invariant v (omega arith) in
    (rw z at i) ∙ lowest_start _ _
