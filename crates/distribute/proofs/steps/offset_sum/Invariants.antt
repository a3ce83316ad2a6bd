-- `steps::offset_sum` meets its contract: the sum is the fold over the angles passed.
use mathlib.Core.Path.{◌≡◌}
use lib.ListN.{length}
use Rattle.distribute.specs.Steps.FloatSteps.{offset_sum}
use Rattle.distribute.proofs.steps.offset_sum.Given as goal

abbrev pub invariant-loop-current : goal.invariant-loop-current
invariant-loop-current l = l.sum ≡ offset_sum l.scale l.angles.current.now l.angles.desired.now (length l.yielded)
