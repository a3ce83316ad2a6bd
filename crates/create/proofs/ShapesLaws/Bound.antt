-- How much the creases count: at most one for each halfedge. Assumes nothing.
use Prim.Native.Nat.{ℕ, ◌≤◌, ◌<◌}
use native.Mathlib.Omega.{arith}
use mathlib.Core.Path.{◌≡◌, refl, subst}
use mathlib.Core.List.{List}
use lib.Ieee.{Float}
use Rattle.common.specs.Count.{count_below}
use Rattle.mesh.specs.Mesh.{start_vert, Halfedges}
use Rattle.mesh.specs.Sound.{Sound}
use Rattle.cycles.proofs.Around.{cycle_two}
use Rattle.cycles.proofs.Starts.{starts_at, cycle_starts, points_bound}
use Rattle.create_shared.proofs.Counts.{aligned_two}
use Rattle.create.specs.declared.creases.Crease.{Crease}
use Rattle.create.specs.declared.creases.Crease.TheVariants.{NoCrease, OneEnd, Through, Meeting}
use Rattle.create.specs.Creases.Creases.{crease_of}
use Rattle.create.specs.Creases.Linked.{pairs_at}
use Rattle.create.proofs.CreasesLaws.Points.{through_in}
use Rattle.create.specs.Shapes.Shapes.{crease_directionless, vert_directionless, creases_directionless}

module _ {H : Halfedges} {n p : ℕ} (s : Sound H n p) (P S : List Float) where
  -- at least two halfedges start where one does
  starts_two : (e : ℕ) → e < n → 2 ≤ count_below (starts_at H (start_vert H e)) n
  starts_two e h = omega (arith, cycle_two s e h, cycle_starts s e h)

  -- only a crease through a point counts, 2 at most, and it has halfedges that start there
  point_within : (v : ℕ) → vert_directionless H P (pairs_at H S n) v ≤ count_below (starts_at H v) n
  unfolding crease_directionless
  point_within v = go (crease_of (pairs_at H S n v)) refl
    where
      go : (k : Crease) → crease_of (pairs_at H S n v) ≡ k → crease_directionless H P k ≤ count_below (starts_at H v) n
      go NoCrease e = omega arith
      go OneEnd e = omega arith
      go (Through a b x y) e =
          let t = through_in s S v a b x y e in
          let two : 2 ≤ count_below (starts_at H v) n = subst (λ (u : ℕ). 2 ≤ count_below (starts_at H u) n) t.2 (starts_two a t.0) in
          omega (arith, two, aligned_two H P a b)
      go (Meeting m) e = omega arith

  pub creases_within : creases_directionless H P (pairs_at H S n) p ≤ n
  creases_within =
      omega (arith, points_bound H n p (vert_directionless H P (pairs_at H S n)) 1 (λ v h. omega (arith, point_within v)))
