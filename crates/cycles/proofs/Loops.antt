-- Loops of code over a walk: what holds of the place that a walk has come to, one step at a time. `Walking` is the invariant, `steps_left` the measure.
--   loop { current = step(current); act(current); if stop(current) { break current; } }    `walking_..`; crates/distribute/proofs/SpreadLaws/Loops.antt has what its loops carry
--   loop { act(current); current = step(current); if current == start { break; } }         `around_..`; the state of a fold over `cycle_from` is carried as
--                                                                                          "what is left of the fold gives the whole"
use mathlib.Core.Path.{◌≡◌, refl, sym, ap, ◌∙◌, subst}
use mathlib.Core.Bool.{Bool, true, false}
use mathlib.Core.List.{foldl}
use mathlib.Core.Logic.{◌≢◌}
use Prim.Native.Nat.{ℕ, suc, ◌≤◌, ◌<◌}
use native.Mathlib.Omega.{arith}
use lib.ListN.{length}
use borrow.Author.Tests.{eq-eqb, ne_eqb}
use Rattle.cycles.specs.Walk.{walk_end, cycle_from, Reaches}
use Rattle.cycles.specs.Orbits.{Permutes}
use Rattle.cycles.proofs.Paths.{is_at, steps_left, iter_zero, iter_suc, path_next, end_next, cycle_next, cycle_final}
use Rattle.cycles.proofs.Orbits.{path_ends}

-- the walk from s, with fuel k, has come to x: from here too it ends at a stop
pub record Walking (step : ℕ → ℕ) (n : ℕ) (stop : ℕ → Bool) (k s x : ℕ) : Type 0 where
  pub fuel : n ≤ k
  pub below : x < n
  pub reached : Reaches step s x
  pub stops : stop (walk_end step stop k x) ≡ true

module _ {step : ℕ → ℕ} {n : ℕ} {stop : ℕ → Bool} {k s : ℕ} (P : Permutes step n) where
  pub walking_start : n ≤ k → s < n → stop s ≡ true → Walking step n stop k s s
  walking_start l h e = record { fuel = l; below = h; reached = (0, iter_zero step s); stops = path_ends P stop s h e k l }

  -- a step is taken, to y
  module _ {x y : ℕ} (w : Walking step n stop k s x) (e : y ≡ step x) where
    some : 1 ≤ k
    some = omega (arith, w.fuel, w.below)

    on : stop y ≡ false → stop (step x) ≡ false
    on d = ap stop (sym e) ∙ d

    pub walking_below : y < n
    walking_below = subst (λ (z : ℕ). z < n) (sym e) (P.below x w.below)

    -- it is no stop: the walk goes on, and has a step less before it
    pub walking_step : stop y ≡ false → Walking step n stop k s y
    walking_step d = record {
      fuel = w.fuel;
      below = walking_below;
      reached = (suc w.reached.0, iter_suc step w.reached.0 s ∙ ap step w.reached.1 ∙ sym e);
      stops = ap (λ (z : ℕ). stop (walk_end step stop k z)) e ∙ ap stop (sym (end_next step stop k x some (on d) w.stops)) ∙ w.stops;
    }

    pub walking_less : stop y ≡ false → steps_left step stop k y < steps_left step stop k x
    walking_less d =
        omega (arith, ap length (path_next step stop k x some (on d) w.stops), ap (steps_left step stop k) e)

-- ---- the walk that goes once round the cycle of s

module _ {step : ℕ → ℕ} {n k s : ℕ} (P : Permutes step n) where
  pub around_start : n ≤ k → s < n → Walking step n (is_at s) k s s
  around_start l h = walking_start P l h (eq-eqb s s refl)

  module _ {x y : ℕ} (w : Walking step n (is_at s) k s x) (e : y ≡ step x) where
    pub around_step : y ≢ s → Walking step n (is_at s) k s y
    around_step d = walking_step P w e (ne_eqb y s d)

    pub around_less : y ≢ s → steps_left step (is_at s) k y < steps_left step (is_at s) k x
    around_less d = walking_less P w e (ne_eqb y s d)

    -- a fold over the places that are left behind: `all` is what the whole fold gives, st the state at x, st' the state after x
    module _ {A : Type 0} (act : A → ℕ → A) (st : A) {st' all : A} (left : foldl act st (cycle_from step k s x) ≡ all) (acts : st' ≡ act st x) where
      pub around_fold_step : y ≢ s → foldl act st' (cycle_from step k s y) ≡ all
      around_fold_step d =
          ap (λ (a : A). foldl act a (cycle_from step k s y)) acts
          ∙ ap (λ (z : ℕ). foldl act (act st x) (cycle_from step k s z)) e
          ∙ ap (foldl act st) (sym (cycle_next step k s x (omega (arith, w.fuel, w.below)) (ap (is_at s) (sym e) ∙ ne_eqb y s d) w.stops))
          ∙ left

      pub around_fold_stop : y ≡ s → st' ≡ all
      around_fold_stop d =
          acts ∙ ap (foldl act st) (sym (cycle_final step k s x (omega (arith, w.fuel, w.below)) (ap (is_at s) (sym e) ∙ eq-eqb y s d))) ∙ left
