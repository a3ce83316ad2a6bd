-- `points::write_block` meets its contract: after k turns the block's first k corners are written. Assumes nothing.
use Rattle.std.proofs.Common.{◌+◌}
use Rattle.stl.specs.Points.CanStart.{Written}
use Rattle.stl.proofs.points.write_block.Given as goal

abbrev pub invariant-loop-k : goal.invariant-loop-k
invariant-loop-k l = Written l.block.file (l.block.lo + l.k) l.written l.initial.pos l.pos l.initial.h l.h
