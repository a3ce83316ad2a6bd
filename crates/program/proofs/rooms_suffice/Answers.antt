-- `program::rooms_suffice` meets its contract. Assumes nothing.
use Rattle.program.proofs.Rooms.{rooms_suffice_lem}
use Rattle.program.proofs.rooms_suffice.Goals as goal

pub returns : goal.returns
returns c = rooms_suffice_lem
