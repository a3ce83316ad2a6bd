-- The block's halfedges so far are led back to.
use Rattle.std.proofs.Common.{◌≡◌, ℕ, ◌<◌, get_or}
use Rattle.stl.specs.Pairs.Twins.{none}
use Rattle.stl.proofs.pairs.lowest_alone.Given as goal

abbrev pub invariant-loop-k : goal.invariant-loop-k
invariant-loop-k l = (i : ℕ) → i < l.k → get_or l.twins i 0 ≡ none → ⊥
