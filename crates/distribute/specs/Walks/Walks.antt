-- What the walks of the code ask and ensure: the lists of an accepted call, the code's state, and one step of each walk. H are the halfedges, P the positions, N the point normals, X the flags, T the tangents, C and D the scratch lists, n and p the counts of halfedges and points.
use Rattle.std.specs.Prelude.{ℕ, suc, ◌+◌, ◌*◌, ◌^◌, ◌≤◌, ◌<◌, ◌≡◌, List, true, false, length, Float}
use Rattle.mesh.specs.Mesh.{as_halfedges, Halfedges}
use Rattle.smoothing.specs.Lists.{tangent_at}
use Rattle.distribute.specs.Spread.Steps.{Steps}
use Rattle.distribute.specs.Spread.Spread.{Found, State, first_walk}
use Rattle.distribute.specs.Steps.FloatSteps.{is_mark, is_start, begin, float_steps}
use Rattle.distribute.specs.Steps.Scratch.{gathered_of}
use Rattle.distribute.specs.declared.steps.Carried.{Carried}
use Rattle.distribute.specs.declared.steps.Turning.{Turning}
use Rattle.distribute.specs.declared.walks.Counts.{Counts}
use Rattle.distribute.specs.declared.walks.Ended.{Ended}
use Rattle.distribute.specs.declared.walks.lists.SpreadLists.{SpreadLists}
use Rattle.distribute.specs.declared.walks.lists.FirstWalk.{FirstWalk}

-- ---- the lists of an accepted call

-- the lists that a walk writes, beside those that it only reads
pub record Written (lists : SpreadLists) (T C D : List Float) : Type 0 where
  pub tangents : length T ≡ lists.n * 4
  pub current : length C ≡ lists.n
  pub desired : length D ≡ lists.n

-- the steps of spreading over the lists
abbrev pub steps_of : SpreadLists → Steps
steps_of lists = float_steps (as_halfedges lists.h.now) lists.pos.now lists.normals.now lists.fixed.now lists.n

-- both counts may grow by one for each halfedge
pub record Room (n : ℕ) (k : Counts) : Type 0 where
  pub looked_fits : k.looked + n < 2 ^ 64
  pub turned_fits : k.turned + n < 2 ^ 64

-- ---- the code's state

-- with the halfedges turned so far, which the code does not keep
abbrev pub state_of : (S : Steps) → S.Tangents → Counts → List ℕ → State S
state_of S ts k places = record { tangents = ts; looked = k.looked; turned = k.turned; places = places }

-- so many turned more
abbrev pub more_turned : Counts → ℕ → Counts
more_turned k i = record { looked = k.looked; turned = k.turned + i }

-- a part of spreading takes the tangents ts and the counts k to these, whatever was turned before
abbrev pub Gives : (S : Steps) → (State S → State S) → S.Tangents → Counts → S.Tangents → Counts → Type 0
Gives S part ts k ts' k' = (places : List ℕ) → (after : List ℕ) × (part (state_of S ts k places) ≡ state_of S ts' k' after)

-- ---- the first walk

-- what it found, with the angles in the scratch lists
abbrev pub found_of : (lists : SpreadLists) → List Float → List Float → Ended → Found (steps_of lists)
found_of lists C D r = record { last = r.last; looked = r.looked; gathered = gathered_of C D r.carried }

-- what it comes to, from a start and with so many steps looked at before
abbrev pub first_from : (H : Halfedges) (P N : List Float) (X : List ℕ) (n : ℕ) → List Float → ℕ → ℕ → Found (float_steps H P N X n)
first_from H P N X n T start looked = first_walk (float_steps H P N X n) (suc n) T start start looked (begin H P start (tangent_at T start))

abbrev pub first_found : (lists : SpreadLists) → List Float → ℕ → ℕ → Found (steps_of lists)
first_found lists T start looked = first_from (as_halfedges lists.h.now) lists.pos.now lists.normals.now lists.fixed.now lists.n T start looked

-- a step onto halfedge e: there is one, and a place for its angles
pub record CanGather (walk : FirstWalk) (C D : List Float) (e : ℕ) (g : Carried) : Type 0 where
  pub below : e < walk.lists.now.n
  pub current_in : g.count < length C
  pub desired_in : g.count < length D

-- ---- the second walk

-- a step onto halfedge e: it has a tangent, and where it is unmarked there is an angle i
pub record CanTurn (T C D : List Float) (by : Turning) (i e : ℕ) : Type 0 where
  pub tangent_in : e * 4 + 4 ≤ length T
  pub current_in : by.count ≤ length C
  pub desired_in : by.count ≤ length D
  pub angle_in : i ≤ by.count
  pub angle_below : is_mark (tangent_at T e).w ≡ false → i < by.count

-- what the walk from `start` is lent: as many angles as the first walk gathers
pub record SecondInput (lists : SpreadLists) (T C D : List Float) (start : ℕ) (by : Turning) : Type 0 where
  pub tangents : length T ≡ lists.n * 4
  pub current_in : by.count ≤ length C
  pub desired_in : by.count ≤ length D
  pub start_below : start < lists.n
  pub start_is : is_start lists.fixed.now T start ≡ true
  pub looked : ℕ
  pub angles : by.count ≡ length (first_found lists T start looked).gathered.desired_angle
