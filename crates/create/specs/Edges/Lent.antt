-- What the lists must be for a read of the smoothness of an edge's two sides. Only contracts inside a call name it. H are the halfedges, M the smoothness of each.
use Rattle.std.specs.Prelude.{ℕ, ◌<◌, List, length, Float}
use Rattle.mesh.specs.Mesh.{paired_halfedge, Halfedges}
use Rattle.mesh.specs.Inside.{Inside}

-- the edge of halfedge e
pub record SidesIn (H : Halfedges) (M : List Float) (e : ℕ) : Type 0 where
  pub own : e < length M
  pub other : paired_halfedge H e < length M
  pub inside : Inside H e
