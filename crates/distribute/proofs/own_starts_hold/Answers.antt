-- `distribute::own_starts_hold` meets its contract.
use Rattle.distribute.proofs.Claims.{own_starts_named}
use Rattle.distribute.proofs.own_starts_hold.Goals as goal

pub returns : goal.returns
returns c = own_starts_named
