-- Spreading: `distribute_tangents` of src/smoothing_tangents.rs, step by step, on a list of starts. Both walks go by fuel n + 1, which is the Rust's guard.
use Rattle.std.specs.Prelude.{Bool, cond, not, ◌&&◌, ℕ, zero, suc, eqb}
use Rattle.std.proofs.Math.Bool.{true, false}
use mathlib.Core.List.{List, [], ◌∷◌}
use Rattle.distribute.specs.Spread.Steps.{Steps}

-- where the first walk ended, how many steps were looked at so far, and what it gathered
pub record Found (S : Steps) : Type 0 where
  pub last : ℕ
  pub looked : ℕ
  pub gathered : S.Gathered

-- The tangents and the two counts, how many steps were looked at and how many tangents were turned. `places` names the halfedges that were turned, the last one first: the preview's bytes report them, and `OrderFree` says which they are.
pub record State (S : Steps) : Type 0 where
  pub tangents : S.Tangents
  pub looked : ℕ
  pub turned : ℕ
  pub places : List ℕ

module _ (S : Steps) where
  open S use {Tangents, Gathered, Plan, n, step, fixed, read, write, weight, is_mark, begin, gather, turns_none, plan, turn, next}

  abbrev pub marked : Tangents → ℕ → Bool
  marked ts e = is_mark (weight (read ts e))

  -- the first walk from `start`, which has come to `here`: the mark is read before anything else
  unfoldable pub first_walk : ℕ → Tangents → ℕ → ℕ → ℕ → Gathered → Found S
  first_walk zero ts start here looked g = record { last = here; looked = looked; gathered = g }
  first_walk (suc k) ts start here looked g =
      let current = step here in
      elim (marked ts current) [
        | true ↦
            elim (eqb current start) [
              | true ↦ record { last = current; looked = suc looked; gathered = g }
              | false ↦ first_walk k ts start current (suc looked) g
            ]
        | false ↦
            let more = gather start current (read ts current) g in
            elim (fixed current) [
              | true ↦ record { last = current; looked = suc looked; gathered = more }
              | false ↦ first_walk k ts start current (suc looked) more
            ]
      ]

  -- one tangent turned
  abbrev pub turn_at : ℕ → Plan → State S → State S
  turn_at e p st = record { tangents = write st.tangents e (turn p (read st.tangents e)); looked = st.looked; turned = suc st.turned; places = e ∷ st.places }

  -- the second walk: a fixed halfedge other than the start ends it before its mark is read
  unfoldable pub second_walk : ℕ → ℕ → ℕ → Plan → State S → State S
  second_walk zero start here p st = st
  second_walk (suc k) start here p st =
      let current = step here in
      elim (not (eqb current start) && fixed current) [
        | true ↦ st
        | false ↦
            elim (marked st.tangents current) [
              | true ↦ elim (eqb current start) [ true ↦ st | false ↦ second_walk k start current p st ]
              | false ↦
                  elim (fixed current) [
                    | true ↦ turn_at current p st
                    | false ↦ second_walk k start current (next p) (turn_at current p st)
                  ]
            ]
      ]

  -- both walks of a start that is not marked
  unfoldable pub walks_from : ℕ → State S → State S
  unfolding first_walk second_walk
  walks_from start st =
      let f = first_walk (suc n) st.tangents start start st.looked (begin start (read st.tangents start)) in
      let seen : State S = record { tangents = st.tangents; looked = f.looked; turned = st.turned; places = st.places } in
      elim (turns_none f.gathered) [
        | true ↦ seen
        | false ↦ second_walk (suc n) start start (plan start f.last f.gathered) seen
      ]

  -- one start: a marked one is passed over
  unfoldable pub spread_from : ℕ → State S → State S
  unfolding walks_from
  spread_from start st = elim (marked st.tangents start) [ true ↦ st | false ↦ walks_from start st ]

  -- one turn of the Rust's loop over the halfedges: one that is not fixed is no start
  unfoldable pub spread_at : ℕ → State S → State S
  spread_at e st = cond (fixed e) (spread_from e st) st

  -- a list of starts, each on what the last one left
  unfoldable pub spread_on : List ℕ → State S → State S
  unfolding spread_from
  spread_on [] st = st
  spread_on (start ∷ starts) st = spread_on starts (spread_from start st)

  -- it begins with the tangents handed in and both counts 0
  abbrev pub handed_in : Tangents → State S
  handed_in ts = record { tangents = ts; looked = 0; turned = 0; places = [] }

  unfoldable pub spread : List ℕ → Tangents → State S
  unfolding spread_on
  spread starts ts = spread_on starts (handed_in ts)

  -- the fixed ones of the k halfedges from i on, in the Rust's order
  unfoldable pub fixed_from : ℕ → ℕ → List ℕ
  fixed_from zero i = []
  fixed_from (suc k) i = elim (fixed i) [ true ↦ i ∷ fixed_from k (suc i) | false ↦ fixed_from k (suc i) ]

  -- the unit's own pass
  unfoldable pub pass : Tangents → State S
  unfolding spread fixed_from
  pass ts = spread (fixed_from n 0) ts
