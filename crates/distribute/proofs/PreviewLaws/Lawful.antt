-- Spreading over the lists, at any positions and point normals, has what the order theorem asks of any steps.
use mathlib.Core.List.{List}
use lib.Ieee.{Float}
use Rattle.distribute.specs.Spread.Steps.{Lawful}
use Rattle.distribute.proofs.WalksLaws.Lawful.{lawful}
use Rattle.distribute.specs.Preview.Walks.{steps_at}
use Rattle.distribute.specs.declared.walks.lists.SpreadLists.{SpreadLists}

abbrev pub laws_at : (lists : SpreadLists) (P N : List Float) → Lawful (steps_at lists P N)
laws_at lists P N = lawful lists.sound P N lists.fixed.now
