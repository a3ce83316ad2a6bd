-- The cases of specs/Spreading.antt hold, by computation. Assumes nothing.
use mathlib.Core.Path.{refl}
use Rattle.cycles.specs.Count.{count}
use Rattle.distribute.specs.Spread.Spread.{spread, pass}
use Rattle.cases.specs.Spreading.{SpreadingHolds}

pub spreading_holds : SpreadingHolds
unfolding count spread pass
spreading_holds = record { one_fixed = refl; one_fixed_bytes = refl; all_fixed = refl; marks = refl; marks_bytes = refl; one_order = refl; other_order = refl }
