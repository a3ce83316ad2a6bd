-- `create_from_normals::whole::normal_tangents` meets its contract: five calls in a row. Assumes nothing.
use Rattle.float.specs.Ops.{zero}
use Rattle.common.proofs.Filled.{cleared}
use Rattle.create_from_normals.specs.Walks.Lists.{normal_of}
use Rattle.create_from_normals.proofs.WholeLaws.Core.{made, made_count}
use Rattle.create_from_normals.proofs.whole.normal_tangents.Goals as goal

pub returns-clause-tangents : goal.returns-clause-tangents
returns-clause-tangents c =
    let a = c.args in let l = a.lists.now in let w = c.requires.1 in
    made l.mesh.sound l.mesh.refs.now l.mesh.pos.now l.mesh.normals.now l.mesh.face_normals.now (normal_of l) a.t.now a.old c.inside_quads.ensures (cleared _ zero _ _ (c.fill.ensures.after (λ y e. e)) w.tangents) (cleared _ 0 _ _ (c.fill-2.ensures.after (λ y e. e)) w.fixed) l.mesh.p _ _ c.normals_verts.ensures.tangents

pub returns-clause-directionless : goal.returns-clause-directionless
returns-clause-directionless c =
    let a = c.args in let l = a.lists.now in let w = c.requires.1 in
    made_count l.mesh.sound l.mesh.refs.now l.mesh.pos.now l.mesh.normals.now l.mesh.face_normals.now (normal_of l) a.t.now a.old c.inside_quads.ensures (cleared _ zero _ _ (c.fill.ensures.after (λ y e. e)) w.tangents) (cleared _ 0 _ _ (c.fill-2.ensures.after (λ y e. e)) w.fixed) l.mesh.p c.normals_verts.ensures.directionless
