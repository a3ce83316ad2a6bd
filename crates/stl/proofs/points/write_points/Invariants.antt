-- `points::write_points` meets its contract: the corners below lo are written. Assumes nothing.
use Rattle.std.proofs.Common.{◌≤◌, ◌-◌}
use Rattle.stl.specs.Points.CanStart.{Written}
use Rattle.stl.proofs.points.write_points.Given as goal

abbrev pub invariant-loop-lo : goal.invariant-loop-lo
invariant-loop-lo l = (l.lo ≤ l.n) × Written l.file l.lo l.written l.initial.pos l.pos l.initial.h l.h

abbrev pub decreases-loop-lo : goal.decreases-loop-lo
decreases-loop-lo l = l.n - l.lo
