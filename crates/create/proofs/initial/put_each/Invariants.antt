-- `create::initial::put_each` meets its contract. The invariant: the list is the fold over the halfedges passed, and holds the lent weights from there on; and it is counted which of those passed have no direction. Assumes nothing.
use Rattle.create.specs.Initial.Lent.{counts_first, put_first}
use Rattle.smoothing.specs.Lists.{weight_at}
use Rattle.common.specs.Fold.{fold_to}
use Rattle.common.specs.Count.{count_below}
use mathlib.Core.Path.{◌≡◌}
use mathlib.Core.Bool.{true}
use Prim.Native.Nat.{ℕ, ◌≤◌}
use Rattle.create.proofs.initial.put_each.Given as goal

abbrev pub invariant-loop-e : goal.invariant-loop-e
invariant-loop-e l = record {
  tangents : l.t ≡ fold_to (put_first l.lists l.initial.t true) l.initial.t l.e;
  weights : (x : ℕ) → l.e ≤ x → weight_at l.t x ≡ weight_at l.initial.t x;
  directionless : l.directionless ≡ count_below (counts_first l.lists.mesh l.initial.t true) l.e;
}
