use native.Mathlib.Omega.{arith}
use Rattle.stl.proofs.PointsLaws.Counts.{count_next, count_few}
use Rattle.stl.proofs.points.count_block.Goals as goal

pub overflow_add-points : goal.overflow_add-points
overflow_add-points c =
    let r = c.requires in
    omega (arith, count_few c.args.block.now c.args.first.now r.0 r.1 c.loop-k.k c.loop-k-test.true c.loop-k.invariant c.from-points.ensures, c.args.block.now.within, c.args.block.now.file.few)

pub loop-k-preserved : goal.loop-k-preserved
loop-k-preserved c =
    let r = c.requires in
    count_next c.args.block.now c.args.first.now r.0 r.1 c.loop-k.k c.loop-k-test.true c.loop-k.invariant c.from-points.ensures
