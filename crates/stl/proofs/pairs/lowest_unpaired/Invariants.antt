use Rattle.std.proofs.Common.{◌≤◌, ◌-◌}
use Rattle.stl.specs.Pairs.Twins.{Covered}
use Rattle.stl.proofs.pairs.lowest_unpaired.Given as goal

abbrev pub invariant-loop-lo : goal.invariant-loop-lo
invariant-loop-lo l = (l.lo ≤ l.n) × Covered l.file.bytes.now l.lo l.worst

abbrev pub decreases-loop-lo : goal.decreases-loop-lo
decreases-loop-lo l = l.n - l.lo
