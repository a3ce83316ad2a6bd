-- How many halfedges start at a point: at least as many as a vertex cycle there has, and for all points together at most n. So bounds by point add up.
use mathlib.Core.Path.{◌≡◌, refl, sym, ◌∙◌}
use mathlib.Core.Bool.{Bool, true, false, cond}
use mathlib.Core.Logic.{◌⊎◌, inl, inr}
use Prim.Native.Nat.{ℕ, ◌*◌, ◌≤◌, ◌<◌}
use native.Mathlib.Nat.{mul-le-mul_left}
use native.Mathlib.Omega.{arith}
use lib.Dec.{eqb}
use lib.ListN.{length}
use borrow.Author.Tests.{eqb-false}
use Rattle.common.specs.Count.{sum, count_below}
use Rattle.common.proofs.Sums.{sum_ext, sum_le, sum_le_n, sum_swap, sum_times}
use Rattle.common.proofs.Count.{count_value}
use Rattle.mesh.specs.Mesh.{start_vert, Halfedges}
use Rattle.mesh.specs.Sound.{Sound}
use Rattle.cycles.specs.Count.{count, ◌∈◌}
use Rattle.cycles.specs.Cycles.{vertex_cycle, vertex_cycle_back}
use Rattle.cycles.proofs.Count.{length_count, zero_or_more}
use Rattle.cycles.proofs.Orbits.{cycle_once, cycle_below}
use Rattle.cycles.proofs.Around.{next_permutes, prev_permutes, cycle_start, cycle_ways}

-- halfedge x starts at point v
abbrev pub starts_at : Halfedges → ℕ → ℕ → Bool
starts_at H v x = eqb (start_vert H x) v

module _ {H : Halfedges} {n p : ℕ} (S : Sound H n p) where
  -- a vertex cycle has each halfedge once, and all start at its point
  pub cycle_starts : (e : ℕ) → e < n → length (vertex_cycle H n e) ≤ count_below (starts_at H (start_vert H e)) n
  unfolding count_below
  cycle_starts e h =
      let each : (x : ℕ) → x < n → count x (vertex_cycle H n e) ≤ cond (starts_at H (start_vert H e) x) 1 0 = λ x l. go x (starts_at H (start_vert H e) x) refl (zero_or_more (count x (vertex_cycle H n e))) in
      omega (arith, length_count n (vertex_cycle H n e) (cycle_below (next_permutes S) e h), sum_le n (λ x. count x (vertex_cycle H n e)) (λ x. cond (starts_at H (start_vert H e) x) 1 0) each)
    where
      go : (x : ℕ) (b : Bool) → starts_at H (start_vert H e) x ≡ b → (count x (vertex_cycle H n e) ≡ 0) ⊎ (x ∈ vertex_cycle H n e) → count x (vertex_cycle H n e) ≤ cond b 1 0
      go x true q m = cycle_once (next_permutes S) e h x
      go x false q (inl z) = omega arith
      go x false q (inr m) = absurd (eqb-false _ _ q (cycle_start S e x h m))

  -- the way round makes no difference
  cycle_lengths : (e : ℕ) → e < n → length (vertex_cycle_back H n e) ≡ length (vertex_cycle H n e)
  cycle_lengths e h =
      length_count n (vertex_cycle_back H n e) (cycle_below (prev_permutes S) e h)
      ∙ sum_ext n (λ x. count x (vertex_cycle_back H n e)) (λ x. count x (vertex_cycle H n e)) (λ x l. cycle_ways S e x h)
      ∙ sym (length_count n (vertex_cycle H n e) (cycle_below (next_permutes S) e h))

  pub cycle_starts_back : (e : ℕ) → e < n → length (vertex_cycle_back H n e) ≤ count_below (starts_at H (start_vert H e)) n
  cycle_starts_back e h = rw (cycle_lengths e h) (cycle_starts e h)

module _ (H : Halfedges) (n p : ℕ) where
  -- each of the n halfedges starts at one point
  starts_sum : sum p (λ v. count_below (starts_at H v) n) ≤ n
  unfolding count_below
  starts_sum =
      rw (sum_swap p n (λ v x. cond (starts_at H v x) 1 0)) (sum_le_n n (λ x. sum p (λ v. cond (starts_at H v x) 1 0)) (λ x l. count_value (start_vert H x) p))

  -- what is at most c for each halfedge that starts at a point is at most c for each halfedge
  pub points_bound : (f : ℕ → ℕ) (c : ℕ) → ((v : ℕ) → v < p → f v ≤ c * count_below (starts_at H v) n) → sum p f ≤ c * n
  points_bound f c h =
      omega (arith, sum_le p f (λ v. c * count_below (starts_at H v) n) h, sum_times p c (λ v. count_below (starts_at H v) n), mul-le-mul_left c starts_sum)
