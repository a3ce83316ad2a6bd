-- `smoothing::faces::flat_faces` meets its contract. The invariant: the list is the fold over the triangles passed. Assumes nothing.
use mathlib.Core.Path.{◌≡◌}
use Rattle.common.specs.Fold.{fold_to}
use Rattle.mesh.specs.Mesh.{as_halfedges}
use Rattle.smoothing.specs.Faces.{mark_flat}
use Rattle.smoothing.proofs.faces.flat_faces.Given as goal

abbrev pub invariant-loop-t : goal.invariant-loop-t
invariant-loop-t l = l.flat ≡ fold_to (mark_flat (as_halfedges l.h) l.refs) l.initial.flat l.t
