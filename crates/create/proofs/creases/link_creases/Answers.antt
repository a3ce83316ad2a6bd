-- `create::creases::link_creases` meets its contract. The invariant: the creases from f on are linked. Assumes nothing.
use mathlib.Core.Path.{◌≡◌}
use lib.ListN.{length}
use native.Mathlib.Omega.{arith}
use Rattle.mesh.specs.Mesh.{as_halfedges}
use Rattle.create.proofs.CreasesLaws.Creases.{creases_all}
use Rattle.create.proofs.creases.link_creases.Goals as goal

pub returns : goal.returns
returns c =
    λ v h.
    let a = c.args in
    let l = c.loop-f in
    let z : l.f ≡ 0 = omega arith in
    let i = l.invariant v (omega arith) in
    rw (creases_all (as_halfedges a.h.now) a.smooth.now v (length a.smooth.now)) at (rw z at i)
