-- `create::shapes::shape_verts` meets its contract. The invariant: both lists are the fold over the points passed, and the count is the sum over them. Assumes nothing.
use mathlib.Core.Path.{◌≡◌}
use Rattle.common.specs.Fold.{fold_to}
use Rattle.common.specs.Count.{sum}
use Rattle.create_shared.specs.Makings.{tangents_of}
use Rattle.create.specs.Shapes.Lent.{shape_vert_by, vert_count}
use Rattle.create.proofs.shapes.shape_verts.Given as goal

abbrev pub invariant-loop-v : goal.invariant-loop-v
invariant-loop-v l = record {
  tangents : tangents_of l.t l.fixed ≡ fold_to (shape_vert_by l.lists) (tangents_of l.initial.t l.initial.fixed) l.v;
  directionless : l.directionless ≡ sum l.v (vert_count l.lists);
}
