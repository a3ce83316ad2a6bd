-- `vert_halfedge` of src/smoothing_tangents.rs: the lowest halfedge that starts at point v, and n where there is none. H are the halfedges, n how many.
use Rattle.std.specs.Prelude.{ℕ, Bool, not, eqb}
use Rattle.mesh.specs.Mesh.{start_vert, Halfedges}
use Rattle.common.specs.Lowest.{lowest}

abbrev pub starts_elsewhere : Halfedges → ℕ → ℕ → Bool
starts_elsewhere H v e = not (eqb (start_vert H e) v)

unfoldable pub vert_halfedge : Halfedges → ℕ → ℕ → ℕ
vert_halfedge H n v = lowest (starts_elsewhere H v) n
