use native.Mathlib.Omega.{arith}
use mathlib.Core.Path.{refl}
use Rattle.stl.proofs.PointsLaws.Counts.{counted_all}
use Rattle.stl.proofs.PointsLaws.Writing.{written_none, written_more, can_block}
use Rattle.stl.proofs.points.write_points.Goals as goal

pub loop-lo-init : goal.loop-lo-init
loop-lo-init c = (omega arith, written_none c.args.file.now c.args.pos.now c.args.h.now)

pub write_block-written-requires : goal.write_block-written-requires
write_block-written-requires c =
    can_block refl c.firsts.ensures (omega arith) (omega (arith, c.block_count-count.ensures)) c.loop-lo.invariant.1 (omega arith) (omega arith)

pub loop-lo-preserved : goal.loop-lo-preserved
loop-lo-preserved c =
    (omega arith, written_more c.loop-lo.invariant.1 c.write_block-written.ensures (omega arith))

pub returns-clause-count : goal.returns-clause-count
returns-clause-count c = counted_all c.args.file.now c.loop-lo.lo c.loop-lo.written c.loop-lo.invariant.1.counted (omega arith)

pub returns-clause-pos : goal.returns-clause-pos
returns-clause-pos c =
    let e = counted_all c.args.file.now c.loop-lo.lo c.loop-lo.written c.loop-lo.invariant.1.counted (omega arith) in
    rw e at c.loop-lo.invariant.1.pos
