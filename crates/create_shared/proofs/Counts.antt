-- What two halfedges along one line count is small. Assumes nothing.
use Prim.Native.Nat.{ℕ, ◌≤◌}
use native.Mathlib.Omega.{arith}
use mathlib.Core.List.{List}
use lib.Ieee.{Float}
use Rattle.common.proofs.Count.{one_at_most}
use Rattle.mesh.specs.Mesh.{Halfedges}
use Rattle.smoothing.specs.Directions.{directionless}
use Rattle.smoothing.specs.Edges.{edge_vec}
use Rattle.create_shared.specs.Makings.{directionless_at, aligned_directionless}

pub directionless_one : (H : Halfedges) (P : List Float) (e : ℕ) → directionless_at H P e ≤ 1
unfolding directionless_at
directionless_one H P e = one_at_most (directionless (edge_vec H P e))

pub aligned_two : (H : Halfedges) (P : List Float) (a b : ℕ) → aligned_directionless H P a b ≤ 2
unfolding aligned_directionless
aligned_two H P a b = omega (arith, directionless_one H P a, directionless_one H P b)
