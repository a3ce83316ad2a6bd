-- `preview::walks::first_walk` meets its contract: the invariant is `Summing`, and the measure the steps that are left.
use mathlib.Core.List.{List, []}
use lib.Ieee.{Float}
use Rattle.distribute.proofs.SpreadLaws.Loops.{first_left}
use Rattle.distribute.specs.Preview.Walks.{steps_at}
use Rattle.distribute.proofs.PreviewLaws.First.{Summing}
use Rattle.distribute.proofs.preview.walks.first_walk.Given as goal

abbrev pub invariant-loop : goal.invariant-loop
invariant-loop l = (P N : List Float) → Summing l.walk.lists.now P N l.walk.t.now l.walk.start l.initial.looked l.here l.looked l.summed

abbrev pub decreases-loop : goal.decreases-loop
decreases-loop l = first_left (steps_at l.walk.lists.now [] []) l.walk.t.now l.here
