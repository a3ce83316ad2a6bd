-- `create_from_normals::state::put_units` meets its contract. The invariant: the list is the fold over the triangles passed. Assumes nothing.
use mathlib.Core.Path.{◌≡◌}
use Rattle.common.specs.Fold.{fold_to}
use Rattle.create_from_normals.specs.State.Units.{put_unit}
use Rattle.create_from_normals.proofs.state.put_units.Given as goal

abbrev pub invariant-loop-t : goal.invariant-loop-t
invariant-loop-t l = l.units ≡ fold_to (put_unit l.face_normals) l.initial.units l.t
