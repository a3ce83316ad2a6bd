-- A walk once round a cycle that counts: from the invariant "what is left of the counted fold gives the whole" to what the loop leaves, what it has counted, and a bound of the count. Assumes nothing.
use Prim.Native.Nat.{ℕ, ◌+◌, ◌≤◌, ◌<◌}
use native.Mathlib.Nat.{le_refl}
use native.Mathlib.Omega.{arith}
use mathlib.Core.Path.{◌≡◌, refl, ap, ap₂, ◌∙◌}
use mathlib.Core.List.{foldl}
use mathlib.Core.Logic.{◌≢◌}
use Rattle.common.specs.Counted.{Counted, counted, count_step}
use Rattle.common.proofs.Counted.{counted_foldl, counted_grows, counted_length}
use Rattle.cycles.specs.Walk.{cycle_from, cycle_of}
use Rattle.cycles.specs.Orbits.{Permutes}
use Rattle.cycles.proofs.Paths.{is_at, steps_left}
use Rattle.cycles.proofs.Orbits.{cycle_within}
use Rattle.cycles.proofs.Loops.{Walking, around_start, around_step, around_less, around_fold_step, around_fold_stop}

-- after a body that counts: s' and j are what its code gives
pub turn : {S : Type 0} (body : S → ℕ → S) (more : S → ℕ → ℕ) (k : ℕ) {s s' : S} {j x : ℕ} → s' ≡ body s x → j ≡ more s x → counted s' (k + j) ≡ count_step body more (counted s k) x
unfolding count_step
turn body more k p q = ap₂ counted p (ap (λ (i : ℕ). k + i) q)

-- the loop round the cycle of e, which starts with `start`, has come to x, with the state s, and has counted k
pub record Counting {S : Type 0} (body : S → ℕ → S) (more : S → ℕ → ℕ) (step : ℕ → ℕ) (n e : ℕ) (start s : S) (k x : ℕ) : Type 0 where
  pub walking : Walking step n (is_at e) n e x
  pub left : foldl (count_step body more) (counted s k) (cycle_from step n e x) ≡ foldl (count_step body more) (counted start 0) (cycle_of step n e)

module _ {S : Type 0} {body : S → ℕ → S} {more : S → ℕ → ℕ} {step : ℕ → ℕ} {n e : ℕ} {start : S} (P : Permutes step n) where
  pub counting_start : e < n → Counting body more step n e start start 0 e
  counting_start h = record { walking = around_start P (le_refl n) h; left = refl }

  module _ {s : S} {k x : ℕ} (w : Counting body more step n e start s k x) where
    -- if the body counts 1 at most, the count stays within n
    pub counting_within : ((t : S) (y : ℕ) → more t y ≤ 1) → e < n → k ≤ n
    counting_within one h =
        omega (arith, counted_grows body more (counted s k) (cycle_from step n e x), ap (λ (c : Counted S). c.count) w.left, counted_length body more one (counted start 0) (cycle_of step n e), cycle_within P e h)

    -- after the body the walk is at y
    module _ {y : ℕ} (q : y ≡ step x) where
      pub counting_less : y ≢ e → steps_left step (is_at e) n y < steps_left step (is_at e) n x
      counting_less = around_less P w.walking q

      module _ {s' : S} {j : ℕ} (done : s' ≡ body s x) (counts : j ≡ more s x) where
        pub counting_step : y ≢ e → Counting body more step n e start s' (k + j) y
        counting_step d = record {
          walking = around_step P w.walking q d;
          left = around_fold_step P w.walking q (count_step body more) (counted s k) w.left (turn body more k done counts) d;
        }

        stop : y ≡ e → counted s' (k + j) ≡ foldl (count_step body more) (counted start 0) (cycle_of step n e)
        stop d = around_fold_stop P w.walking q (count_step body more) (counted s k) w.left (turn body more k done counts) d

        pub counting_state : y ≡ e → s' ≡ foldl body start (cycle_of step n e)
        counting_state d = ap (λ (c : Counted S). c.state) (stop d) ∙ counted_foldl body more (counted start 0) (cycle_of step n e)

        pub counting_count : y ≡ e → k + j ≡ (foldl (count_step body more) (counted start 0) (cycle_of step n e)).count
        counting_count d = ap (λ (c : Counted S). c.count) (stop d)
