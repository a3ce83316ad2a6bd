-- `create::shapes::shape_verts` meets its contract. The invariant: both lists are the fold over the points passed, and the count is the sum over them. Assumes nothing.
use Rattle.create.specs.Shapes.Lent.{vert_count}
use Rattle.create.proofs.ShapesLaws.Bound.{creases_within}
use Rattle.common.proofs.Sums.{sum_turn, sum_mono}
use lib.ListN.{length}
use Prim.Native.Nat.{◌+◌}
use native.Mathlib.Omega.{arith}
use Rattle.create.proofs.shapes.shape_verts.Goals as goal

pub overflow_add-directionless : goal.overflow_add-directionless
overflow_add-directionless c =
    let a = c.args.lists.now in
    let l = c.loop-v in
    let m = c.shape_vert-directionless in
    omega (
      arith,
      sum_turn (vert_count a) l.v l.directionless m.result l.invariant.directionless m.ensures.directionless,
      sum_mono (vert_count a) (l.v + 1) (length a.creases.at.now) (omega arith),
      creases_within a.creases.lists.sound a.pos.now a.creases.smooth.now,
    )
