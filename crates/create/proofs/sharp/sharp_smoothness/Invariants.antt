-- `create::sharp::sharp_smoothness` meets its contract. The invariant: the list is what the entries passed make of it. Assumes nothing.
use mathlib.Core.Path.{◌≡◌}
use Rattle.create.proofs.SharpLaws.Adding.{added}
use Rattle.create.proofs.sharp.sharp_smoothness.Given as goal

abbrev pub invariant-loop-entry : goal.invariant-loop-entry
invariant-loop-entry l = l.smooth ≡ added l.initial.smooth l.sharp l.entry-index
