-- `create::initial::put_edges` meets its contract. The invariant: the list is the fold over the edges passed, and the count the sum over them, which at the end are those over the halfedges. Assumes nothing.
use mathlib.Core.Path.{◌≡◌}
use mathlib.Core.Bool.{false}
use Rattle.common.specs.Fold.{fold_to}
use Rattle.common.specs.Count.{sum}
use Rattle.mesh.specs.Mesh.{as_halfedges}
use Rattle.smoothing.specs.Lists.{put_tangent}
use Rattle.smoothing.specs.Inner.{put_edge}
use Rattle.create.specs.Initial.Lent.{first_at, edge_directionless}
use Rattle.create.proofs.initial.put_edges.Given as goal

abbrev pub invariant-loop-e : goal.invariant-loop-e
invariant-loop-e l = record {
  tangents : l.t ≡ fold_to (put_edge put_tangent (as_halfedges l.lists.mesh.h.now) (first_at l.lists l.initial.t false)) l.initial.t l.e;
  directionless : l.directionless ≡ sum l.e (edge_directionless l.lists.mesh l.initial.t);
}
