-- `cycles::next_around` meets its contract.
use Rattle.cycles.specs.Cycles.{next_around}
use Rattle.cycles.proofs.next_around.Goals as goal

pub returns : goal.returns
unfolding next_around
returns c =
    cc
