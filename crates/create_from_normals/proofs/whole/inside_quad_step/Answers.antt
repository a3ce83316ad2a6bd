-- `create_from_normals::whole::inside_quad_step` meets its contract: each way is what the test picks; the pair has the same flag. Assumes nothing.
use mathlib.Core.Bool.{true≢false}
use mathlib.Core.Path.{sym, ◌∙◌}
use Rattle.smoothing.specs.Inner.{put_edge}
use Rattle.create_from_normals.specs.Whole.Flags.{inside_quad_step}
use Rattle.create_from_normals.proofs.WholeLaws.Flags.{flag_pair}
use Rattle.create_from_normals.proofs.whole.inside_quad_step.Goals as goal
use Rattle.create_from_normals.proofs.whole.inside_quad_step.Goals.{else-not-lists-via-then-not-lists+else-not-is_forward, else-not-lists-via-else-not-lists}

pub returns : goal.returns
unfolding inside_quad_step put_edge
returns c =
    let a = c.args.lists.now in
    let flag = rw c.if-lists.false at c.quad_flag-flag.ensures in
    elim c.else-not-lists.branch [
      | else-not-lists-via-then-not-lists+else-not-is_forward w ↦ simp (c.if-lists.false, ← w.is_forward.ensures, w.if-not-is_forward.false, flag_pair a.mesh.sound a.mesh.refs.now a.t.now c.args.e c.requires.0, ← flag, ← c.paired_halfedge-pair.ensures)
      | else-not-lists-via-else-not-lists w ↦ absurd (true≢false (sym w.if-not-lists.false ∙ c.if-lists.false))
    ]
