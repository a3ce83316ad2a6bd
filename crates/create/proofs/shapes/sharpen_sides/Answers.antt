-- `create::shapes::sharpen_sides` meets its contract: a walk once round a vertex cycle. The invariant: what is left of the fold gives the whole. Assumes nothing.
use Rattle.create.specs.Shapes.Sharpen.{Sides, sides_of, sharpen_side, sharpen_sides}
use Rattle.cycles.proofs.Around.{next_permutes}
use Rattle.cycles.proofs.Loops.{around_start, around_step, around_less, around_fold_step, around_fold_stop}
use native.Mathlib.Nat.{le_refl}
use mathlib.Core.Path.{refl, ap, ◌∙◌}
use Rattle.create.proofs.shapes.sharpen_sides.Goals as goal

pub loop-current-init : goal.loop-current-init
loop-current-init c =
    let pre = c.requires in (around_start (next_permutes c.args.lists.now.creases.lists.sound) (le_refl _) pre.0, refl, refl)

pub loop-current-smaller : goal.loop-current-smaller
loop-current-smaller c =
    around_less (next_permutes c.args.lists.now.creases.lists.sound) c.loop-current.invariant.0 c.next_around-current.ensures c.if-current-first.false

pub loop-current-preserved : goal.loop-current-preserved
loop-current-preserved c =
    let m = c.sharpen_side-s in
    let l = c.loop-current in
    let a = c.args in
    let Q = next_permutes c.args.lists.now.creases.lists.sound in (
      around_step Q l.invariant.0 c.next_around-current.ensures c.if-current-first.false,
      m.auto.t ∙ l.invariant.1,
      around_fold_step Q l.invariant.0 c.next_around-current.ensures (sharpen_side a.first a.second a.beyond) (sides_of l.t l.s) l.invariant.2 m.ensures c.if-current-first.false,
    )

pub returns : goal.returns
unfolding sharpen_sides
returns c =
    let m = c.sharpen_side-s in
    let l = c.loop-current in
    let a = c.args in
    ap (λ (k : Sides). k.tangents)
    (around_fold_stop (next_permutes c.args.lists.now.creases.lists.sound) l.invariant.0 c.next_around-current.ensures (sharpen_side a.first a.second a.beyond) (sides_of l.t l.s) l.invariant.2 m.ensures c.if-current-first.true)
