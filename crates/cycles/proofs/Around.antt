-- The walks around the points of a sound mesh: both steps take its halfedges one to one to themselves, and what follows of vertex cycles.
use mathlib.Core.Path.{◌≡◌, refl, sym, ap, ◌∙◌}
use mathlib.Core.Logic.{◌≢◌}
use Prim.Native.Nat.{ℕ, zero, suc, ◌+◌, ◌^◌, ◌≤◌, ◌<◌}
use native.Mathlib.Omega.{arith}
use lib.ListN.{length}
use Rattle.mesh.specs.Mesh.{start_vert, paired_halfedge, next_halfedge, prev_halfedge, Halfedges}
use Rattle.mesh.specs.Sound.{Sound}
use Rattle.questions.proofs.Accepted.{accepted}
use Rattle.mesh.proofs.Halfedges as Halfedges
use Rattle.cycles.specs.Count.{count, ◌∈◌}
use Rattle.cycles.specs.Walk.{iter, cycle_of, Reaches}
use Rattle.cycles.specs.Orbits.{Permutes}
use Rattle.cycles.specs.Cycles.{next_around, prev_around, vertex_cycle, vertex_cycle_back, Cycles, AcceptedCycles}
use Rattle.cycles.proofs.Orbits.{undo_reaches, cycle_back, cycle_some, cycle_once, cycle_reached, cycle_all, orbits}
use Rattle.cycles.proofs.Count.{at_most_one}

module _ {H : Halfedges} {n p : ℕ} (S : Sound H n p) where
  -- what `prev_around` requires of the number
  pub prev_fits : (e : ℕ) → e < n → e + 1 < 2 ^ 64
  prev_fits e h = omega (arith, S.few_halfedges)

  -- ---- one step

  pub next_below : (e : ℕ) → e < n → next_around H e < n
  unfolding next_around
  next_below e h = Halfedges.next_below n (paired_halfedge H e) S.triangles (S.paired_below e h)

  pub prev_below : (e : ℕ) → e < n → prev_around H e < n
  unfolding prev_around
  prev_below e h = S.paired_below (prev_halfedge e) (Halfedges.prev_below n e S.triangles h)

  pub prev_next : (e : ℕ) → e < n → prev_around H (next_around H e) ≡ e
  unfolding next_around prev_around
  prev_next e h = ap (paired_halfedge H) (Halfedges.prev_next (paired_halfedge H e)) ∙ S.paired_back e h

  pub next_prev : (e : ℕ) → e < n → next_around H (prev_around H e) ≡ e
  unfolding next_around prev_around
  next_prev e h = ap next_halfedge (S.paired_back (prev_halfedge e) (Halfedges.prev_below n e S.triangles h)) ∙ Halfedges.next_prev e

  pub next_permutes : Permutes (next_around H) n
  next_permutes = record { below = next_below; injective = λ a b la lb e. sym (prev_next a la) ∙ ap (prev_around H) e ∙ prev_next b lb }

  pub prev_permutes : Permutes (prev_around H) n
  prev_permutes = record { below = prev_below; injective = λ a b la lb e. sym (next_prev a la) ∙ ap (next_around H) e ∙ next_prev b lb }

  -- the start point stays
  pub next_start : (e : ℕ) → e < n → start_vert H (next_around H e) ≡ start_vert H e
  unfolding next_around
  next_start e h = S.next_start (paired_halfedge H e) (S.paired_below e h) ∙ S.paired_end e h

  pub prev_start : (e : ℕ) → e < n → start_vert H (prev_around H e) ≡ start_vert H e
  prev_start e h = sym (next_start (prev_around H e) (prev_below e h)) ∙ ap (start_vert H) (next_prev e h)

  pub reaches_start : (e x : ℕ) → e < n → Reaches (next_around H) e x → start_vert H x ≡ start_vert H e
  unfolding iter
  reaches_start e x h (j, q) = ap (start_vert H) (sym q) ∙ go j e h
    where
      go : (j e : ℕ) → e < n → start_vert H (iter (next_around H) j e) ≡ start_vert H e
      go zero e h = refl
      go (suc j) e h = go j (next_around H e) (next_below e h) ∙ next_start e h

  -- ---- vertex cycles

  -- A step does not stay where it is: else the pair of e would come before e in its triangle, and the third side would begin and end at one point.
  pub next_other : (e : ℕ) → e < n → next_around H e ≢ e
  unfolding next_around
  next_other e h q =
      let a : ℕ = next_halfedge e in
      let la : a < n = Halfedges.next_below n e S.triangles h in
      let third : next_halfedge a ≡ paired_halfedge H e = ap (λ (x : ℕ). next_halfedge (next_halfedge x)) (sym q) ∙ Halfedges.next_thrice (paired_halfedge H e) in
      S.ends_differ a la (S.next_start e h ∙ sym (S.paired_start e h) ∙ ap (start_vert H) (sym third) ∙ S.next_start a la)

  pub cycle_two : (e : ℕ) → e < n → 2 ≤ length (vertex_cycle H n e)
  unfolding iter
  cycle_two e h = go (length (cycle_of (next_around H) n e)) refl
    where
      go : (k : ℕ) → length (cycle_of (next_around H) n e) ≡ k → 2 ≤ length (cycle_of (next_around H) n e)
      go zero q = absurd (omega (arith, cycle_some next_permutes e h))
      go (suc zero) q = absurd (next_other e h (ap (λ (k : ℕ). iter (next_around H) k e) (sym q) ∙ cycle_back next_permutes e h))
      go (suc (suc k)) q = omega arith

  pub cycle_start : (e x : ℕ) → e < n → x ∈ vertex_cycle H n e → start_vert H x ≡ start_vert H e
  cycle_start e x h m = reaches_start e x h (cycle_reached next_permutes e h x m)

  pub cycle_ways : (e x : ℕ) → e < n → count x (vertex_cycle_back H n e) ≡ count x (vertex_cycle H n e)
  cycle_ways e x h =
      at_most_one _ _ (cycle_once prev_permutes e h x) (cycle_once next_permutes e h x)
      (λ m. cycle_all next_permutes e h x (undo_reaches prev_permutes next_permutes next_prev e x h (cycle_reached prev_permutes e h x m)))
      (λ m. cycle_all prev_permutes e h x (undo_reaches next_permutes prev_permutes prev_next e x h (cycle_reached next_permutes e h x m)))

  -- ---- THE CLAIM

  pub cycles : Cycles H n
  cycles = record {
    forward = orbits next_permutes;
    backward = orbits prev_permutes;
    prev_next = prev_next;
    next_prev = next_prev;
    next_start = next_start;
    prev_start = prev_start;
    cycle_start = cycle_start;
    cycle_two = cycle_two;
    cycle_ways = cycle_ways;
  }

-- so a mesh that got through the questions has them
pub accepted_cycles : AcceptedCycles
accepted_cycles H n p lengths a = cycles (accepted H n p lengths a).1
