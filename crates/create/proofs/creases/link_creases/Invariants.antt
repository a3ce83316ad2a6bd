-- `create::creases::link_creases` meets its contract. The invariant: the creases from f on are linked. Assumes nothing.
use lib.ListN.{length}
use Rattle.mesh.specs.Mesh.{as_halfedges}
use Rattle.create.specs.Creases.Linked.{LinkedFrom}
use Rattle.create.proofs.creases.link_creases.Given as goal

abbrev pub invariant-loop-f : goal.invariant-loop-f
invariant-loop-f l = LinkedFrom (as_halfedges l.h) l.smooth l.at l.link (length l.smooth) l.f
