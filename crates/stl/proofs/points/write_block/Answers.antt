use native.Mathlib.Omega.{arith}
use Rattle.stl.proofs.PointsLaws.Writing.{can_next, written_more}
use Rattle.stl.proofs.points.write_block.Goals as goal

pub write_start-written-requires : goal.write_start-written-requires
write_start-written-requires c = can_next c.requires c.loop-k.invariant c.loop-k-test.true c.loop-k.auto.pos

pub loop-k-preserved : goal.loop-k-preserved
loop-k-preserved c = written_more c.loop-k.invariant c.write_start-written.ensures (omega arith)
