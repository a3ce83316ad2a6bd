-- `create_from_normals::whole::inside_quads` meets its contract: the invariant: the list is the fold over the halfedges passed. Assumes nothing.
use mathlib.Core.Path.{◌≡◌}
use Rattle.common.specs.Fold.{fold_to}
use Rattle.create_from_normals.specs.Whole.Flags.{halfedges_of, inside_quad_step}
use Rattle.create_from_normals.proofs.whole.inside_quads.Given as goal

abbrev pub invariant-loop-e : goal.invariant-loop-e
invariant-loop-e l = l.inside ≡ fold_to (inside_quad_step (halfedges_of l.lists) l.lists.mesh.refs.now l.lists.t.now l.lists.old) l.initial.inside l.e
