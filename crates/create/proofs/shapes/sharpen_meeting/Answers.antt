-- `create::shapes::sharpen_meeting` meets its contract: a walk once round a vertex cycle. The invariant: what is left of the fold gives the whole. Assumes nothing.
use Rattle.create.specs.Shapes.Lent.{mesh_of}
use Rattle.create.specs.Shapes.Sharpen.{sharpen_meeting_at, sharpen_meeting}
use Rattle.cycles.proofs.Around.{next_permutes}
use Rattle.cycles.proofs.Loops.{around_start, around_step, around_less, around_fold_step, around_fold_stop}
use Rattle.smoothing.specs.Faces.{is_flat}
use native.Mathlib.Nat.{le_refl}
use mathlib.Core.Path.{refl, ◌∙◌}
use Rattle.create.proofs.shapes.sharpen_meeting.Goals as goal

pub loop-current-init : goal.loop-current-init
loop-current-init c =
    let pre = c.requires in (around_start (next_permutes c.args.lists.now.creases.lists.sound) (le_refl _) pre.0, refl, refl)

pub loop-current-smaller : goal.loop-current-smaller
loop-current-smaller c =
    around_less (next_permutes c.args.lists.now.creases.lists.sound) c.loop-current.invariant.0 c.next_around-current.ensures c.if-current-first.false

pub loop-current-preserved : goal.loop-current-preserved
loop-current-preserved c =
    let m = c.sharpen_meeting_at in
    let l = c.loop-current in
    let a = c.args in
    let Q = next_permutes c.args.lists.now.creases.lists.sound in (
      around_step Q l.invariant.0 c.next_around-current.ensures c.if-current-first.false,
      m.auto.t ∙ l.invariant.1,
      around_fold_step Q l.invariant.0 c.next_around-current.ensures (sharpen_meeting_at (mesh_of a.lists.now) (is_flat a.lists.now.flat.now) a.mean) l.t l.invariant.2 m.ensures c.if-current-first.false,
    )

pub returns : goal.returns
unfolding sharpen_meeting
returns c =
    let m = c.sharpen_meeting_at in
    let l = c.loop-current in
    let a = c.args in
    around_fold_stop (next_permutes c.args.lists.now.creases.lists.sound) l.invariant.0 c.next_around-current.ensures (sharpen_meeting_at (mesh_of a.lists.now) (is_flat a.lists.now.flat.now) a.mean) l.t l.invariant.2 m.ensures c.if-current-first.true
