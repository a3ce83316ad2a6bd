-- `mesh::index_of` meets its contract.
use Rattle.mesh.proofs.Signed.{indexed, not_negative, cast_index}
use Rattle.mesh.proofs.index_of.Goals as goal

pub overflow_cast-result : goal.overflow_cast-result
overflow_cast-result c =
    let f = c.ranges.x.sfits in not_negative c.args.x f (indexed c.args.x f c.requires)

pub returns : goal.returns
returns c =
    let f = c.ranges.x.sfits in cast_index c.args.x f (indexed c.args.x f c.requires)
