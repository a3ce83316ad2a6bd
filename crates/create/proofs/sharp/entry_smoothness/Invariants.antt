-- `create::sharp::entry_smoothness` meets its contract. The invariant: the list is what the entries passed make of it. Assumes nothing.
use mathlib.Core.Path.{◌≡◌}
use lib.ListN.{length}
use Rattle.create.specs.Sharp.Entries.{entries_of}
use Rattle.create.proofs.SharpLaws.Adding.{added}
use Rattle.create.proofs.sharp.entry_smoothness.Given as goal

abbrev pub invariant-loop-e : goal.invariant-loop-e
invariant-loop-e l = l.smooth ≡ added l.initial.smooth (entries_of l.entries l.smoothness) (length l.yielded)
