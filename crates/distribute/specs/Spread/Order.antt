-- Spreading does not depend on the order of its starts: one claim about the whole list of starts, with the two counts looked and turned (`OrderFree`), and that
-- the unit's own starts are such a list (`OwnStarts`). And what holds of each start: no guard ends its walks (`Unguarded`), and there is an angle for each tangent turned (`AnglesSuffice`).
use Rattle.std.specs.Prelude.{◌≡◌, true, false, List, ℕ, suc, ◌+◌, ◌≤◌, ◌<◌}
use Rattle.std.specs.List.Sorted.{IsStrictlyIncreasing}
use Rattle.cycles.specs.Count.{count, ◌∈◌, Exactly}
use Rattle.cycles.specs.Walk.{Reaches}
use Rattle.distribute.specs.Spread.Steps.{Steps}
use Rattle.distribute.specs.Spread.Spread.{State, marked, first_walk, second_walk, spread, fixed_from, pass}

module _ (S : Steps) where
  open S use {Tangents, Tangent, Gathered, Plan, n, step, fixed, read, weight, begin, gather}

  -- the list names each fixed halfedge exactly once, and nothing else
  pub record NamesFixed (starts : List ℕ) : Type 0 where
    pub each : (e : ℕ) → e < n → fixed e ≡ true → count e starts ≡ 1
    pub only : (e : ℕ) → e ∈ starts → (e < n) × (fixed e ≡ true)

  -- The unit's own starts, the fixed halfedges in ascending order, are such a list, and the unit's pass is spreading from it.
  pub record OwnStarts : Type 0 where
    pub names : NamesFixed (fixed_from S n 0)
    pub ascending : IsStrictlyIncreasing (fixed_from S n 0)
    pub pass_is : (ts : Tangents) → pass S ts ≡ spread S (fixed_from S n 0) ts

  -- d lies in the round of e
  abbrev pub InRound : ℕ → ℕ → Type 0
  InRound e d = Reaches step e d

  -- e is fixed, and unmarked: the weight handed in for it is no mark
  abbrev pub FixedUnmarked : Tangents → ℕ → Type 0
  FixedUnmarked ts e = (fixed e ≡ true) × (marked S ts e ≡ false)

  -- the round of e holds a fixed, unmarked halfedge
  abbrev pub Touched : Tangents → ℕ → Type 0
  Touched ts e = (d : ℕ) × InRound e d × FixedUnmarked ts d

  -- e is the sole fixed, unmarked halfedge of its round
  abbrev pub Sole : Tangents → ℕ → Type 0
  Sole ts e = FixedUnmarked ts e × ((d : ℕ) → InRound e d → FixedUnmarked ts d → d ≡ e)

  -- e was turned on the way to this state
  abbrev pub WasTurned : State S → ℕ → Type 0
  WasTurned st e = e ∈ st.places

  -- Spreading the tangents `ts` from `starts` gives the tangents `after` and the counts `looked` and `turned`, and these are the same whatever the order of the starts.
  pub record OrderFree (starts : List ℕ) (ts after : Tangents) (looked turned : ℕ) : Type 0 where
    pub tangents_same : (spread S starts ts).tangents ≡ after
    pub looked_same : (spread S starts ts).looked ≡ looked
    pub turned_same : (spread S starts ts).turned ≡ turned
    -- the halfedges turned are those of the unit's own pass
    pub places_same : (e : ℕ) → count e (spread S starts ts).places ≡ count e (pass S ts).places
    -- looked is the number of halfedges in rounds that hold a fixed, unmarked halfedge
    pub looked_is : Exactly (Touched ts) n looked
    -- turned is the number of halfedges turned, at most looked
    pub turned_is : Exactly (WasTurned (spread S starts ts)) n turned
    pub turned_at_most : turned ≤ looked
    -- none is turned twice, and a fixed one only as the sole fixed, unmarked one of its round
    pub turned_once : (e : ℕ) → count e (spread S starts ts).places ≤ 1
    pub fixed_sole : (e : ℕ) → WasTurned (spread S starts ts) e → fixed e ≡ true → Sole ts e
    -- weights keep their bits, and so does every tangent that was not turned
    pub weights_kept : (e : ℕ) → weight (read after e) ≡ weight (read ts e)
    pub others_kept : (e : ℕ) → ¬ WasTurned (spread S starts ts) e → read after e ≡ read ts e

  -- The Rust's guards let n + 1 steps pass. They end neither walk from a start: n steps are enough, and with any more both walks come to the same.
  pub record Unguarded (ts : Tangents) (start : ℕ) : Type 0 where
    pub first_walk : (k looked : ℕ) (g : Gathered) → n ≤ k → first_walk S k ts start start looked g ≡ first_walk S n ts start start looked g
    pub second_walk : (k : ℕ) (p : Plan) (st : State S) → n ≤ k → st.tangents ≡ ts → second_walk S k start start p st ≡ second_walk S n start start p st

  -- a size of what is gathered that grows by one with each halfedge: the number of angles
  pub record AngleCount (size : Gathered → ℕ) : Type 0 where
    pub at_start : (start : ℕ) (v : Tangent) → size (begin start v) ≡ 0
    pub grows : (start e : ℕ) (v : Tangent) (g : Gathered) → size (gather start e v g) ≡ suc (size g)

  -- the second walk from a start turns at most as many tangents as the first one gathered angles, so it never reads past their end
  abbrev pub AnglesSuffice : Tangents → ℕ → Type 0
  AnglesSuffice ts start = (size : Gathered → ℕ) → AngleCount size → (k looked : ℕ) (p : Plan) (st : State S) → st.tangents ≡ ts
      → (second_walk S k start start p st).turned ≤ st.turned + size (first_walk S k ts start start looked (begin start (read ts start))).gathered
