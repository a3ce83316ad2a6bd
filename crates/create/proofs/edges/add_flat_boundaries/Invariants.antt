-- `create::edges::add_flat_boundaries` meets its contract. The invariant: the list is the fold over the halfedges passed. Assumes nothing.
use mathlib.Core.Path.{◌≡◌}
use Rattle.common.specs.Fold.{fold_to}
use Rattle.mesh.specs.Mesh.{as_halfedges}
use Rattle.smoothing.specs.Faces.{is_flat}
use Rattle.create.specs.Edges.Smoothness.{add_flat_boundary}
use Rattle.create.proofs.edges.add_flat_boundaries.Given as goal

abbrev pub invariant-loop-e : goal.invariant-loop-e
invariant-loop-e l = l.smooth ≡ fold_to (add_flat_boundary (as_halfedges l.h) l.refs (is_flat l.flat)) l.initial.smooth l.e
