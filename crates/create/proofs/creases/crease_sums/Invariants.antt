-- `create::creases::crease_sums` meets its contract. The invariant: the sums over what is left of the list, from those so far, are the sums over all. Assumes nothing.
use lib.ListN.{length}
use Rattle.create_shared.specs.Verts.{vert_halfedge}
use Rattle.mesh.specs.Mesh.{as_halfedges}
use Rattle.create.specs.Creases.Creases.{add_sides, sums_of}
use Rattle.create.specs.Creases.Lists.{pair_by, pairs_by}
use Rattle.create.proofs.CreasesLaws.Linked.{left_of, Walking}
use Rattle.create.proofs.creases.crease_sums.Given as goal

abbrev pub invariant-loop-e : goal.invariant-loop-e
invariant-loop-e l = Walking l.creases.n l.creases.link.now (vert_halfedge (as_halfedges l.creases.h.now) l.creases.n l.v) (λ s e. add_sides s (pair_by l.creases e)) (sums_of (pairs_by l.creases l.v)) l.code l.sums

abbrev pub decreases-loop-e : goal.decreases-loop-e
decreases-loop-e l = length (left_of l.creases.n l.creases.link.now l.creases.n l.code)
