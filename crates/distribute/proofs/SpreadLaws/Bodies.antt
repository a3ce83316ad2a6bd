-- The bodies of the two loops over the walks: what a loop keeps of the place that its walk has come to, one step at a time, with a marked halfedge passed over.
use mathlib.Core.Path.{◌≡◌, refl, sym, ap, ◌∙◌}
use mathlib.Core.Bool.{Bool, true, false, cond, not, ◌&&◌}
use mathlib.Core.Logic.{◌≢◌}
use Prim.Native.Nat.{ℕ, suc, ◌+◌, ◌≤◌, ◌<◌}
use native.Mathlib.Omega.{arith}
use native.Mathlib.Numerals.{add-one}
use borrow.Author.Tests.{eqb-false, ne_eqb}
use lib.Dec.{eqb}
use Rattle.distribute.specs.Spread.Steps.{Steps, Lawful}
use Rattle.distribute.specs.Spread.Spread.{State, marked, first_walk, turn_at, second_walk}
use Rattle.distribute.proofs.SpreadLaws.Places.{is_stop, and_split, stop_is}
use Rattle.distribute.proofs.SpreadLaws.Turns.{SameMarks}
use Rattle.distribute.proofs.SpreadLaws.Loops.{first_left, second_left, angles_left, FirstAt, FirstStep, first_begin, first_within, first_some, first_pass, first_gather, first_end, SecondAt, SecondStep, second_begin, second_start, index_below, second_pass, second_turn, second_stop, second_end}

-- one more, unless it is marked
at_most : (b : Bool) (i j : ℕ) → j ≡ cond b i (i + 1) → j ≤ i + 1
at_most true i j e = omega arith
at_most false i j e = omega arith

-- ---- the first walk

-- it has come to x, with so many steps looked at and `count` angles gathered
pub record FirstGoing (S : Steps) (ts : S.Tangents) (start looked₀ : ℕ) (g₀ : S.Gathered) (x looked count : ℕ) (g : S.Gathered) : Type 0 where
  pub at : FirstAt S ts start x
  pub same : first_walk S (suc S.n) ts start x looked g ≡ first_walk S (suc S.n) ts start start looked₀ g₀
  pub few : looked + first_left S ts x ≤ looked₀ + S.n
  pub room : count + first_left S ts x ≤ S.n

-- it has ended at x
pub record FirstOver (S : Steps) (ts : S.Tangents) (start looked₀ : ℕ) (g₀ : S.Gathered) (x looked count : ℕ) (g : S.Gathered) : Type 0 where
  pub found : record { last = x; looked = looked; gathered = g } ≡ first_walk S (suc S.n) ts start start looked₀ g₀
  pub few : looked ≤ looked₀ + S.n
  pub room : count ≤ S.n

module _ {S : Steps} (L : Lawful S) {ts : S.Tangents} {start looked₀ : ℕ} {g₀ : S.Gathered} where
  open S use {Gathered, n, step, fixed, read, gather}

  pub first_going : start < n → is_stop S ts start ≡ true → {g : Gathered} {count : ℕ} → g ≡ g₀ → count ≡ 0 → FirstGoing S ts start looked₀ g₀ start looked₀ count g
  first_going b d eg ec =
      let within = first_within L b (stop_is S ts start d) in
      record {
        at = first_begin L b (stop_is S ts start d);
        same = ap (first_walk S (suc n) ts start start looked₀) eg;
        few = omega (arith, within);
        room = omega (arith, within);
      }

  module _ {x looked count : ℕ} {g : Gathered} (w : FirstGoing S ts start looked₀ g₀ x looked count g) where
    -- there is a next step, and a place for what it gathers
    pub first_room : (count < n) × (looked < looked₀ + n)
    first_room = omega (arith, w.room, w.few, first_some L ts x)

    module _ {y : ℕ} (e : y ≡ step x) {g' : Gathered} {count' : ℕ} (eg : g' ≡ cond (marked S ts y) g (gather start y (read ts y) g)) (ec : count' ≡ cond (marked S ts y) count (count + 1)) where
      goes_first : is_stop S ts y ≡ false → FirstStep S ts start x y g g'
      goes_first d = go (marked S ts y) refl
        where
          go : (b : Bool) → marked S ts y ≡ b → FirstStep S ts start x y g g'
          go true m = rw (rw m at eg) (first_pass L w.at e g m)
          go false m = rw (rw m at eg) (first_gather L w.at e g m (rw m at d))

      pub first_next : is_stop S ts y ≡ false → FirstGoing S ts start looked₀ g₀ y (looked + 1) count' g'
      first_next d =
          let s = goes_first d in
          let c = at_most (marked S ts y) count count' ec in
          record {
            at = s.to;
            same = rw (add-one looked) (sym (s.left looked) ∙ w.same);
            few = omega (arith, w.few, s.less);
            room = omega (arith, w.room, s.less, c);
          }

      pub first_less : is_stop S ts y ≡ false → first_left S ts y < first_left S ts x
      first_less d = (goes_first d).less

      pub first_over : is_stop S ts y ≡ true → FirstOver S ts start looked₀ g₀ y (looked + 1) count' g'
      first_over d =
          let f = stop_is S ts y d in
          let c = at_most (marked S ts y) count count' ec in
          record {
            found =
                rw (add-one looked)
                (ap (λ (h : Gathered). record { last = y; looked = suc looked; gathered = h }) (rw f.1 at eg)
                ∙ sym (first_end L w.at e looked g f.1 f.0) ∙ w.same);
            few = omega (arith, w.few, first_some L ts x);
            room = omega (arith, w.room, first_some L ts x, c);
          }

-- ---- the second walk

-- one step onto the halfedge e, with i tangents turned, the plan p and the state st: a marked one is passed over, any other turned
module _ (S : Steps) (e : ℕ) where
  abbrev pub index_on : ℕ → State S → ℕ
  index_on i st = cond (marked S st.tangents e) i (i + 1)

  abbrev pub plan_on : S.Plan → State S → S.Plan
  plan_on p st = cond (marked S st.tangents e) p (S.next p)

  abbrev pub state_on : S.Plan → State S → State S
  state_on p st = cond (marked S st.tangents e) st (turn_at S e p st)

-- it has come to x, with i tangents turned, the plan p and the state st; it set out with so many angles, the plan p₀ and the state st₀, with the marks of ts
pub record SecondGoing {S : Steps} (L : Lawful S) (ts : S.Tangents) (start angles : ℕ) (p₀ : S.Plan) (st₀ : State S) (x i : ℕ) (p : S.Plan) (st : State S) : Type 0 where
  pub at : SecondAt L ts start angles x i st
  pub same : second_walk S (suc S.n) start x p st ≡ second_walk S (suc S.n) start start p₀ st₀

module _ {S : Steps} (L : Lawful S) {ts : S.Tangents} {start angles : ℕ} {p₀ : S.Plan} {st₀ : State S} where
  open S use {Plan, n, step, fixed}
  open L use {Whole}

  pub second_going : start < n → is_stop S ts start ≡ true → Whole st₀.tangents → SameMarks S ts st₀.tangents → angles ≡ angles_left S ts start
      → SecondGoing L ts start angles p₀ st₀ start 0 p₀ st₀
  second_going b d w m e = record { at = rw e (second_begin L b (stop_is S ts start d) st₀ w m); same = refl }

  module _ {x i : ℕ} {p : Plan} {st : State S} (w : SecondGoing L ts start angles p₀ st₀ x i p st) {y : ℕ} (e : y ≡ step x) where
    -- it leaves at a fixed halfedge other than the start
    pub second_leaves : not (eqb y start) && fixed y ≡ true → second_walk S (suc n) start start p₀ st₀ ≡ st
    second_leaves d =
        let f = and_split (eqb y start) (fixed y) d in
        sym w.same ∙ second_stop L w.at e p (eqb-false y start f.1) f.0

    goes_second : fixed y ≡ false → SecondStep L ts start angles x y (index_on S y i st) p (plan_on S y p st) st (state_on S y p st)
    goes_second f = go (marked S st.tangents y) refl
      where
        go : (b : Bool) → marked S st.tangents y ≡ b → SecondStep L ts start angles x y (index_on S y i st) p (plan_on S y p st) st (state_on S y p st)
        go true m = rw m (second_pass L w.at e p f m)
        go false m = rw (m, add-one i) (second_turn L w.at e p f m)

    free : not (eqb y start) && fixed y ≡ false → y ≢ start → fixed y ≡ false
    free d o = rw (ne_eqb y start o) at d

    pub second_next : not (eqb y start) && fixed y ≡ false → y ≢ start
        → SecondGoing L ts start angles p₀ st₀ y (index_on S y i st) (plan_on S y p st) (state_on S y p st)
    second_next d o = let s = goes_second (free d o) in record { at = s.to; same = sym s.left ∙ w.same }

    pub second_less : not (eqb y start) && fixed y ≡ false → y ≢ start → second_left S y < second_left S x
    second_less d o = (goes_second (free d o)).less

    -- it ends at its start, which it turns
    pub second_over : y ≡ start → second_walk S (suc n) start start p₀ st₀ ≡ state_on S y p st
    second_over o = rw (second_start L w.at e o) (sym w.same ∙ second_end L w.at e p o)

    pub second_few : index_on S y i st ≤ angles
    second_few = go (marked S st.tangents y) refl
      where
        go : (b : Bool) → marked S st.tangents y ≡ b → index_on S y i st ≤ angles
        go true m = rw m (omega (arith, w.at.index))
        go false m = rw m (omega (arith, index_below L w.at e m))
