-- `points::count_points` meets its contract: the points of the corners below lo are counted. Assumes nothing.
use Rattle.std.proofs.Common.{◌≡◌, ◌≤◌, ◌-◌}
use Rattle.common.specs.Count.{count_below}
use Rattle.stl.specs.File.Points.{is_first}
use Rattle.stl.proofs.points.count_points.Given as goal

abbrev pub invariant-loop-lo : goal.invariant-loop-lo
invariant-loop-lo l = (l.lo ≤ l.n) × (l.points ≡ count_below (is_first l.file.bytes.now) l.lo)

abbrev pub decreases-loop-lo : goal.decreases-loop-lo
decreases-loop-lo l = l.n - l.lo
