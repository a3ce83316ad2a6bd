-- The cases of specs/Rounds.antt hold, by computation. Assumes nothing.
use mathlib.Core.Path.{refl}
use Rattle.cycles.specs.Walk.{cycle_from}
use Rattle.cycles.specs.Cycles.{next_around, prev_around}
use Rattle.cases.proofs.Hold.{meshes}
use Rattle.cases.specs.Rounds.{RoundsHold}

pub rounds_hold : RoundsHold
unfolding cycle_from next_around prev_around meshes
rounds_hold = record { rounds = refl; backward = refl }
