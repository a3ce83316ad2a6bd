-- `create_from_normals::walks::normals_verts` meets its contract. The invariant: both lists and the count are the counted fold over the points passed. Assumes nothing.
use Rattle.create_from_normals.specs.Walks.Lists.{normals_vert_by, normals_vert_count}
use Rattle.create_shared.specs.Makings.{tangents_of}
use Rattle.common.specs.Fold.{fold_to}
use Rattle.common.specs.Counted.{counted, count_step}
use mathlib.Core.Path.{◌≡◌}
use Rattle.create_from_normals.proofs.walks.normals_verts.Given as goal

abbrev pub invariant-loop-v : goal.invariant-loop-v
invariant-loop-v l =
    counted (tangents_of l.t l.fixed) l.directionless ≡ fold_to (count_step (normals_vert_by l.walks) (normals_vert_count l.walks)) (counted (tangents_of l.initial.t l.initial.fixed) 0) l.v
