-- The guards never fire, no angle is read past its list, and the unit's own starts are named: what the laws of spreading say of the float steps on an accepted mesh.
use Prim.Native.Nat.{ℕ, zero, suc, ◌+◌, ◌≤◌}
use native.Mathlib.Omega.{arith}
use mathlib.Core.Path.{◌≡◌, refl, sym, ap, ◌∙◌}
use mathlib.Core.List.{List, [], ◌∷◌}
use borrow.Author.Tests.{le-ltb}
use lib.ListN.{length, get_or, length-set, length-append}
use lib.Ieee.{Float}
use Rattle.common.specs.Fold.{fold_to}
use Rattle.common.proofs.Fold.{fold_first}
use Rattle.mesh.specs.Mesh.{Halfedges}
use Rattle.cycles.specs.Walk.{cycle_of}
use Rattle.cycles.proofs.Orbits.{cycle_back, cycle_within, cycle_some}
use Rattle.cycles.proofs.Around.{next_permutes}
use Rattle.distribute.specs.Spread.Spread.{State, marked, turn_at}
use Rattle.distribute.specs.Spread.Order.{AngleCount}
use Rattle.distribute.proofs.SpreadLaws.Sublists.{sublist_length}
use Rattle.distribute.proofs.SpreadLaws.Turns.{turn_all}
use Rattle.distribute.proofs.SpreadLaws.Places.{gather_places, turn_places, turns_gathers}
use Rattle.distribute.proofs.SpreadLaws.Walks.{second_is}
use Rattle.distribute.proofs.SpreadLaws.Own.{own_starts}
use Rattle.distribute.proofs.SpreadLaws.Guards.{unguarded, angles_suffice, angles_gathered}
use Rattle.distribute.specs.Steps.FloatSteps.{Plan, begin, gather_edge, plan, clamp_angle, clamped_angle, next, float_steps}
use Rattle.distribute.proofs.WalksLaws.Lawful.{lawful, angle_count, angles_counted}
use Rattle.distribute.specs.Claims.{GuardsNeverFire, plan_at, plan_from, AnglesInLists, NextInList, OwnStartsNamed}
use Rattle.distribute.proofs.Accepted.{lists_of}

-- ---- the guards

pub guards_never_fire : (H : Halfedges) (P N : List Float) (F : List ℕ) (T C D : List Float) (n p : ℕ) → GuardsNeverFire H P N F T C D n p
guards_never_fire H P N F T C D n p U start w =
    let s = (lists_of H P N F T C D n p w.accepted).0 in
    record {
      comes_back = (
        length (cycle_of (float_steps H P N F n).step n start),
        cycle_some (next_permutes s) start w.below,
        cycle_within (next_permutes s) start w.below,
        cycle_back (next_permutes s) start w.below,
      );
      unguarded = unguarded (lawful s P N F) U start w.below w.whole w.is_start;
    }

-- ---- the plan, turn after turn

plan_index : (i : ℕ) (by : Plan) → (plan_at by i).index ≡ by.index + i
unfolding plan_at next
plan_index zero by = omega arith
plan_index (suc i) by = omega (arith, plan_index i (next by))

plan_current : (i : ℕ) (by : Plan) → (plan_at by i).current_angle ≡ by.current_angle
unfolding plan_at next
plan_current zero by = refl
plan_current (suc i) by = plan_current i (next by)

plan_desired : (i : ℕ) (by : Plan) → length (plan_at by i).desired_angle ≡ length by.desired_angle
unfolding plan_at next
plan_desired zero by = refl
plan_desired (suc i) by = plan_desired i (next by) ∙ simp length-set

module _ (H : Halfedges) (P N : List Float) (F : List ℕ) (n : ℕ) where
  turn_fold : (cs : List ℕ) (by : Plan) (st : State (float_steps H P N F n))
      → turn_all (float_steps H P N F n) cs by st ≡ fold_to (λ s i. turn_at (float_steps H P N F n) (get_or cs i 0) (plan_at by i) s) st (length cs)
  unfolding turn_all plan_at fold_to
  turn_fold [] by st = refl
  turn_fold (c ∷ cs) by st =
      turn_fold cs (next by) (turn_at (float_steps H P N F n) c by st)
      ∙ sym (fold_first (λ s i. turn_at (float_steps H P N F n) (get_or (c ∷ cs) i 0) (plan_at by i) s) st (length cs))

  -- `current_angle` grows as `desired_angle` does
  currents_counted : AngleCount (float_steps H P N F n) (λ g. length g.current_angle)
  unfolding begin gather_edge
  currents_counted = record { at_start = λ start v. refl; grows = λ start e v g. simp length-append (omega arith) }

-- ---- the angles

next_in_list : (by : Plan) → NextInList by
unfolding clamped_angle clamp_angle
next_in_list by x h = rw (le-ltb (by.index + 1) (length by.desired_angle) h)

pub angles_in_lists : (H : Halfedges) (P N : List Float) (F : List ℕ) (T C D : List Float) (n p : ℕ) → AnglesInLists H P N F T C D n p
unfolding plan
angles_in_lists H P N F T C D n p U start w looked st e =
    let S = float_steps H P N F n in
    let L = lawful (lists_of H P N F T C D n p w.accepted).0 P N F in
    let by = plan_from H P N F n U start looked in
    let cs = turn_places S U start (suc n) start in
    let current : length by.current_angle ≡ length (gather_places S U (suc n) start) =
    angles_gathered L U start w.below w.is_start (λ g. length g.current_angle) (currents_counted H P N F n) (suc n) looked in
    let desired : length by.desired_angle ≡ length (gather_places S U (suc n) start) =
    angles_gathered L U start w.below w.is_start angle_count (angles_counted H P N F n) (suc n) looked in
    let within : length cs ≤ length (gather_places S U (suc n) start) = sublist_length (turns_gathers S U start (suc n) start) in
    record {
      as_many = current ∙ sym desired;
      places = cs;
      turns = second_is S U L start w.is_start.0 (suc n) start by st w.below (rw e w.whole) (λ x. ap (λ (u : List Float). marked S u x) e) ∙ turn_fold H P N F n cs by st;
      index_is = λ i. omega (arith, plan_index i by);
      current_in = λ i h. omega (arith, ap length (plan_current i by));
      desired_in = λ i h. omega (arith, plan_desired i by);
      next_in = λ i. next_in_list (plan_at by i);
      suffice = rw e (angles_suffice L U start w.below w.whole w.is_start);
    }

-- ---- the starts

pub own_starts_named : OwnStartsNamed
own_starts_named H P N F n = own_starts (float_steps H P N F n)
