-- `cycles::prev_around` meets its contract.
use Rattle.cycles.specs.Cycles.{prev_around}
use Rattle.cycles.proofs.prev_around.Goals as goal

pub returns : goal.returns
unfolding prev_around
returns c =
    cc
