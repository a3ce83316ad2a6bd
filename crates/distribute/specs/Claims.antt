-- What is claimed of both walks of spreading from each start: the Rust's guards never fire (`GuardsNeverFire`), and no angle is read past its list (`AnglesInLists`). The clauses `guards` and `angles` of `distribute_tangents` say it of the lists of a call. And that its own starts are a list of which `AnyOrder` speaks (`OwnStartsNamed`). The letters are those of Distribute.antt.
use Rattle.std.specs.Prelude.{ℕ, zero, suc, ◌+◌, ◌*◌, ◌≤◌, ◌<◌, ◌≡◌, List, false, length, get_or, Float}
use Rattle.std.specs.Float.{nan}
use Rattle.float.specs.Ops as float
use Rattle.float.specs.Ops.{◌⊗◌}
use Rattle.common.specs.Fold.{fold_to}
use Rattle.mesh.specs.Mesh.{Halfedges}
use Rattle.std.specs.Prelude.{Ok}
use Rattle.cycles.specs.Walk.{iter}
use Rattle.distribute.specs.Spread.Steps.{Steps}
use Rattle.distribute.specs.Spread.Spread.{State, turn_at, second_walk}
use Rattle.distribute.specs.Spread.Order.{OwnStarts, FixedUnmarked, Unguarded, AnglesSuffice}
use Rattle.distribute.specs.Steps.FloatSteps.{Plan, last_or, plan, clamp_angle, desired_angle, next, float_steps}
use Rattle.distribute.specs.Walks.Walks.{first_from}
use Rattle.distribute.specs.Distribute.{check_lists}

-- Both walks go from `start` on an accepted mesh: it is fixed, and unmarked in the tangents T' that the starts before it left. T' may be any list with four numbers for each halfedge.
pub record WalksGo (H : Halfedges) (P N : List Float) (X : List ℕ) (T C D : List Float) (n p : ℕ) (T' : List Float) (start : ℕ) : Type 0 where
  pub accepted : check_lists H P N X T C D n p ≡ Ok tt
  pub whole : length T' ≡ n * 4
  pub below : start < n
  pub is_start : FixedUnmarked (float_steps H P N X n) T' start

-- ---- the guards, which let n + 1 steps pass and then end a walk

pub record GuardFree (S : Steps) (ts : S.Tangents) (start : ℕ) : Type 0 where
  -- the start, at which either walk ends, comes again after at most n steps
  pub comes_back : (k : ℕ) × (1 ≤ k) × (k ≤ S.n) × (iter S.step k start ≡ start)
  -- with n steps, or any more, each walk comes to the same
  pub unguarded : Unguarded S ts start

abbrev pub GuardsNeverFire : Halfedges → List Float → List Float → List ℕ → List Float → List Float → List Float → ℕ → ℕ → Type 0
GuardsNeverFire H P N X T C D n p = (T' : List Float) (start : ℕ) → WalksGo H P N X T C D n p T' start → GuardFree (float_steps H P N X n) T' start

-- ---- the angles

-- what the second walk goes by at its turn number i
unfoldable pub plan_at : Plan → ℕ → Plan
plan_at by zero = by
plan_at by (suc i) = plan_at (next by) i

-- what it sets out with: from the first walk, with so many steps looked at before
abbrev pub plan_from : Halfedges → List Float → List Float → List ℕ → ℕ → List Float → ℕ → ℕ → Plan
plan_from H P N X n T' start looked = let found = first_from H P N X n T' start looked in plan start found.last found.gathered

-- `desired_angle[i + 1]` is asked for only where there is one: past the end any number x does as well
abbrev pub NextInList : Plan → Type 0
NextInList by =
    (x : Float) → length by.desired_angle ≤ by.index + 1
    → desired_angle by ≡ clamp_angle (get_or by.desired_angle by.index nan ⊗ by.scale) (last_or by.desired_angle by.index float.zero) false x

-- of the second walk, on the state st and by the plan `by` with which it sets out
pub record AnglesIn (H : Halfedges) (P N : List Float) (X : List ℕ) (n start : ℕ) (by : Plan) (st : State (float_steps H P N X n)) : Type 0 where
  -- both lists have as many angles: the loop that sums the offset over `current_angle` reads `desired_angle` too
  pub as_many : length by.current_angle ≡ length by.desired_angle
  -- the walk turns these halfedges, number i of them by the plan number i
  pub places : List ℕ
  pub turns : second_walk (float_steps H P N X n) (suc n) start start by st ≡ fold_to (λ s i. turn_at (float_steps H P N X n) (get_or places i 0) (plan_at by i) s) st (length places)
  -- at the angles `current_angle[i]` and `desired_angle[i]`, which are in their lists
  pub index_is : (i : ℕ) → (plan_at by i).index ≡ i
  pub current_in : (i : ℕ) → i < length places → i < length (plan_at by i).current_angle
  pub desired_in : (i : ℕ) → i < length places → i < length (plan_at by i).desired_angle
  pub next_in : (i : ℕ) → NextInList (plan_at by i)
  -- with any fuel it turns at most as many tangents as the first walk gathered angles
  pub suffice : AnglesSuffice (float_steps H P N X n) st.tangents start

abbrev pub AnglesInLists : Halfedges → List Float → List Float → List ℕ → List Float → List Float → List Float → ℕ → ℕ → Type 0
AnglesInLists H P N X T C D n p =
    (T' : List Float) (start : ℕ) → WalksGo H P N X T C D n p T' start
    → (looked : ℕ) (st : State (float_steps H P N X n)) → st.tangents ≡ T' → AnglesIn H P N X n start (plan_from H P N X n T' start looked) st

-- ---- the starts

-- of every list of halfedges and flags: the fixed ones, in ascending order, are a list of which `AnyOrder` speaks, here and for the preview
abbrev pub OwnStartsNamed : Type 0
OwnStartsNamed = (H : Halfedges) (P N : List Float) (X : List ℕ) (n : ℕ) → OwnStarts (float_steps H P N X n)
