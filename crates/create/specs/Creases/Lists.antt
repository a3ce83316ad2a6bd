-- What the definitions say at the lists of a call, `LinkedCreases`. Only contracts of functions inside the making cite these.
use Rattle.std.specs.Prelude.{ℕ, List}
use Rattle.mesh.specs.Mesh.{as_halfedges}
use Rattle.create.specs.Edges.Edges.{Pair}
use Rattle.create.specs.Edges.Smoothness.{pair_at}
use Rattle.create.specs.Creases.Linked.{pairs_at}
use Rattle.create.specs.declared.creases.linked_creases.LinkedCreases.{LinkedCreases}

-- the two sides of halfedge e's edge
abbrev pub pair_by : LinkedCreases → ℕ → Pair
pair_by c e = pair_at (as_halfedges c.h.now) c.smooth.now e

-- the pairs of each point
abbrev pub pairs_by : LinkedCreases → ℕ → List Pair
pairs_by c = pairs_at (as_halfedges c.h.now) c.smooth.now c.n
