-- The lowest halfedge of a point: it is below n or n, and it starts there.
use Prim.Native.Nat.{ℕ, ◌≤◌, ◌<◌}
use mathlib.Core.Path.{◌≡◌}
use borrow.Author.Tests.{eqb-true, not-false}
use Rattle.mesh.specs.Mesh.{start_vert, Halfedges}
use Rattle.common.proofs.Lowest.{lowest_within, lowest_found}
use Rattle.create_shared.specs.Verts.{starts_elsewhere, vert_halfedge}

pub vert_halfedge_within : (H : Halfedges) (n v : ℕ) → vert_halfedge H n v ≤ n
unfolding vert_halfedge
vert_halfedge_within H n v = lowest_within (starts_elsewhere H v) n

pub vert_halfedge_starts : (H : Halfedges) (n v : ℕ) → vert_halfedge H n v < n → start_vert H (vert_halfedge H n v) ≡ v
unfolding vert_halfedge
vert_halfedge_starts H n v l = eqb-true _ _ (not-false _ (lowest_found (starts_elsewhere H v) n l))
