-- `points::count_block` meets its contract: after k turns the block's first k corners are counted. Assumes nothing.
use Rattle.std.proofs.Common.{◌≡◌, ◌+◌}
use Rattle.common.specs.Count.{count_below}
use Rattle.stl.specs.File.Points.{is_first}
use Rattle.stl.proofs.points.count_block.Given as goal

abbrev pub invariant-loop-k : goal.invariant-loop-k
invariant-loop-k l = l.points ≡ count_below (is_first l.block.file.bytes.now) (l.block.lo + l.k)
