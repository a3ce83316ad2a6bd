-- `create_from_normals::whole::make_tangents` meets its contract: four calls in a row. Assumes nothing.
use Rattle.create_from_normals.proofs.StateLaws.Units.{units_in}
use Rattle.create_from_normals.specs.Walks.Lists.{mesh_of, normal_of}
use Rattle.create_from_normals.proofs.WholeLaws.Core.{created}
use Rattle.create_from_normals.proofs.whole.make_tangents.Goals as goal

pub normal_tangents-directionless-requires : goal.normal_tangents-directionless-requires
normal_tangents-directionless-requires c =
    let w = c.requires in (units_in _ _ _ w.current (rw w.current at c.put_units.ensures), w.made)

pub returns-clause-tangents : goal.returns-clause-tangents
returns-clause-tangents c =
    let a = c.args in let l = a.lists.now in created (mesh_of l) l.mesh.refs.now l.mesh.pos.now l.mesh.normals.now l.mesh.face_normals.now (normal_of l) a.t.now a.old l.mesh.n l.mesh.p _ _ _ c.normal_tangents-directionless.ensures.tangents c.spread_tangents.ensures.report.tangents_are
