-- `create_from_normals::whole::inside_quads` meets its contract: the invariant: the list is the fold over the halfedges passed. Assumes nothing.
use native.Mathlib.Omega.{arith}
use Rattle.create_from_normals.proofs.WholeLaws.Flags.{inside_ended}
use Rattle.create_from_normals.proofs.whole.inside_quads.Goals as goal

pub returns : goal.returns
returns c =
    let a = c.args.lists.now in
    let l = c.loop-e in
    inside_ended a.mesh.sound a.mesh.refs.now a.t.now a.old l.inside _ l.e c.requires (omega arith) l.invariant
