-- `create_shared::vert_halfedge` meets its contract. The invariant: each place holds the lowest of the halfedges passed, from the last one down. Assumes nothing.
use Prim.Native.Nat.{ℕ, ◌-◌, ◌<◌}
use mathlib.Core.Path.{◌≡◌}
use lib.ListN.{length, get_or}
use Rattle.mesh.specs.Mesh.{as_halfedges}
use Rattle.common.specs.Lowest.{lowest_from}
use Rattle.create_shared.specs.Verts.{starts_elsewhere}
use Rattle.create_shared.proofs.vert_halfedge.Given as goal

abbrev pub invariant-loop-e : goal.invariant-loop-e
invariant-loop-e l = (v : ℕ) → v < length l.initial.at → get_or l.at v 0 ≡ lowest_from (starts_elsewhere (as_halfedges l.h) v) (l.n - l.e) l.e
