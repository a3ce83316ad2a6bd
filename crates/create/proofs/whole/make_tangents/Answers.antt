-- `create::whole::make_tangents` meets its contract: three calls in a row. Assumes nothing.
use Rattle.mesh.specs.Mesh.{as_halfedges}
use Rattle.create.proofs.WholeLaws.Core.{created}
use Rattle.create.proofs.whole.make_tangents.Goals as goal

pub returns-clause-tangents : goal.returns-clause-tangents
returns-clause-tangents c =
    let a = c.args in
    let m = a.mesh in
    created (as_halfedges m.h.now) m.pos.now m.normals.now m.face_normals.now m.refs.now a.smooth.now a.t.now a.old m.n m.p c.shape_tangents-directionless.ensures.tangents c.finish_tangents.ensures.tangents
