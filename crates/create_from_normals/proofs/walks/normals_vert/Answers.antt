-- `create_from_normals::walks::normals_vert` meets its contract: a bound of what it counts. Assumes nothing.
use native.Mathlib.Omega.{arith}
use Rattle.common.proofs.Count.{count_within}
use Rattle.cycles.proofs.Starts.{starts_at}
use Rattle.create_shared.specs.Makings.{tangents_of}
use Rattle.create_from_normals.specs.Walks.Lists.{mesh_of, normal_of}
use Rattle.create_from_normals.specs.Steps.Steps.{Walk}
use Rattle.create_from_normals.specs.Steps.Carried.{is_inside}
use Rattle.create_from_normals.specs.Walks.Walks.{finish_vert_directionless}
use Rattle.create_from_normals.proofs.WalksLaws.Lent.{starts_there}
use Rattle.create_from_normals.proofs.WalksLaws.Bound.{point_within}
use lib.ListN.{get_or}
use mathlib.Core.Path.{ap, ◌∙◌}
use Rattle.create_from_normals.proofs.walks.normals_vert.Goals as goal

pub overflow_add-result : goal.overflow_add-result
overflow_add-result c =
    let a = c.args in
    let p = c.requires in
    let m = c.normal_walk-walk.ensures in
    let w = a.walks.now in
    let k = w.lists in
    let N = normal_of k in
    let e = get_or w.first.now a.v 0 in
    let finish = c.finish_vert-finish.ensures.directionless ∙ ap (λ (w : Walk). finish_vert_directionless (mesh_of k) k.mesh.pos.now k.mesh.normals.now k.mesh.face_normals.now N k.mesh.n w a.v e) m.state in
    omega (
      arith,
      m.directionless,
      finish,
      point_within k.mesh.sound k.mesh.pos.now k.mesh.normals.now k.mesh.face_normals.now N c.if-e-n.false (starts_there w p.0 c.if-e-n.false) (is_inside w.inside.now) (tangents_of a.t.now a.fixed.now),
      count_within (starts_at (mesh_of k) a.v) k.mesh.n,
      p.1,
    )
