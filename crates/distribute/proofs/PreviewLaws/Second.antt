-- The loop over a preview's second walk: spreading's second walk goes along, on a state that the preview does not keep, and turns what gets a byte.
use mathlib.Core.Path.{◌≡◌, refl, sym, ap, ◌∙◌}
use mathlib.Core.Bool.{Bool, true, false, cond, not, ◌&&◌}
use mathlib.Core.List.{List}
use mathlib.Core.Logic.{◌≢◌}
use Prim.Native.Nat.{ℕ, suc, ◌+◌, ◌≤◌, ◌<◌}
use native.Mathlib.Nat.{add-zero, le_trans}
use native.Mathlib.Omega.{arith}
use lib.Dec.{eqb}
use lib.ListN.{set}
use Rattle.distribute.specs.Spread.Steps.{Steps, Lawful}
use Rattle.distribute.specs.Spread.Spread.{State, marked, second_walk}
use Rattle.distribute.proofs.SpreadLaws.Places.{is_stop, stop_is}
use Rattle.distribute.proofs.SpreadLaws.Loops.{angles_left, angles_within, second_below}
use Rattle.distribute.proofs.SpreadLaws.Bodies.{SecondGoing, second_going, second_leaves, second_next, second_over, second_few, index_on, state_on, plan_on}
use Rattle.distribute.specs.Walks.Walks.{state_of, more_turned}
use Rattle.distribute.specs.declared.walks.Counts.{Counts}
use Rattle.distribute.specs.Preview.Bytes.{turned_bytes}
use Rattle.distribute.specs.Preview.Walks.{Shows}
use Rattle.distribute.proofs.PreviewLaws.Bytes.{bytes_turn}

module _ {S : Steps} (L : Lawful S) (ts : S.Tangents) (start : ℕ) (Y₀ : List ℕ) (by : S.Plan) (k : Counts) (places : List ℕ) where
  open S use {Plan, n, step, fixed}
  open L use {Whole}

  -- i tangents were turned on the way from the state with which the walk set out to st, and the bytes Y tell them
  pub record Shown (i : ℕ) (Y : List ℕ) (st : State S) : Type 0 where
    pub looked_is : st.looked ≡ k.looked
    pub turned_is : st.turned ≡ k.turned + i
    pub bytes_are : Y₀ ≡ turned_bytes S (state_of S ts k places) → Y ≡ turned_bytes S st

  -- the walk has come to x
  pub record Showing (x i : ℕ) (Y : List ℕ) : Type 0 where
    pub plan : Plan
    pub state : State S
    pub going : SecondGoing L ts start (angles_left S ts start) by (state_of S ts k places) x i plan state
    pub shown : Shown i Y state

  pub showing_begin : start < n → is_stop S ts start ≡ true → Whole ts → Showing start 0 Y₀
  showing_begin b d w = record {
    plan = by;
    state = state_of S ts k places;
    going = second_going L b d w (λ e. refl) refl;
    shown = record { looked_is = refl; turned_is = sym (add-zero k.turned); bytes_are = λ h. h };
  }

  over : {i : ℕ} {Y : List ℕ} {st : State S} → second_walk S (suc n) start start by (state_of S ts k places) ≡ st → Shown i Y st
      → Y₀ ≡ turned_bytes S (state_of S ts k places) → Shows S (second_walk S (suc n) start start by (state_of S ts k places)) Y (more_turned k i)
  over q s h = rw q record { bytes_are = s.bytes_are h; looked_is = sym s.looked_is; turned_is = sym s.turned_is }

  module _ {x i : ℕ} {Y : List ℕ} (w : Showing x i Y) {y : ℕ} (e : y ≡ step x) where
    pub showing_leaves : not (eqb y start) && fixed y ≡ true → Y₀ ≡ turned_bytes S (state_of S ts k places)
        → Shows S (second_walk S (suc n) start start by (state_of S ts k places)) Y (more_turned k i)
    showing_leaves d = over (second_leaves L w.going e d) w.shown

    module _ {i' : ℕ} {Y' : List ℕ} (ei : i' ≡ cond (marked S ts y) i (i + 1)) (ey : Y' ≡ cond (marked S ts y) Y (set Y y 1)) where
      index_is : i' ≡ index_on S y i w.state
      index_is = ei ∙ ap (λ (b : Bool). cond b i (i + 1)) (sym (w.going.at.marks y))

      shown_next : Shown i' Y' (state_on S y w.plan w.state)
      shown_next = go (marked S w.state.tangents y) refl
        where
          go : (b : Bool) → marked S w.state.tangents y ≡ b → Shown i' Y' (state_on S y w.plan w.state)
          go true m =
              let t : marked S ts y ≡ true = sym (w.going.at.marks y) ∙ m in
              let same : i' ≡ i = rw t at ei in
              rw m record {
                looked_is = w.shown.looked_is;
                turned_is = omega (arith, w.shown.turned_is);
                bytes_are = λ h. (rw t at ey) ∙ w.shown.bytes_are h;
              }
          go false m =
              let t : marked S ts y ≡ false = sym (w.going.at.marks y) ∙ m in
              let more : i' ≡ i + 1 = rw t at ei in
              rw m record {
                looked_is = w.shown.looked_is;
                turned_is = omega (arith, w.shown.turned_is);
                bytes_are = λ h. (rw t at ey) ∙ ap (λ (l : List ℕ). set l y 1) (w.shown.bytes_are h) ∙ bytes_turn S y w.plan w.state (second_below L w.going.at e);
              }

      pub showing_next : not (eqb y start) && fixed y ≡ false → y ≢ start → Showing y i' Y'
      showing_next d o = record {
        plan = plan_on S y w.plan w.state;
        state = state_on S y w.plan w.state;
        going = rw index_is (second_next L w.going e d o);
        shown = shown_next;
      }

      pub showing_over : y ≡ start → Y₀ ≡ turned_bytes S (state_of S ts k places)
          → Shows S (second_walk S (suc n) start start by (state_of S ts k places)) Y' (more_turned k i')
      showing_over o = over (second_over L w.going e o) shown_next

      pub showing_few : start < n → is_stop S ts start ≡ true → i' ≤ n
      showing_few b d = rw index_is (le_trans (second_few L w.going e) (angles_within L b (stop_is S ts start d)))

  pub showing_within : start < n → is_stop S ts start ≡ true → {x i : ℕ} {Y : List ℕ} → Showing x i Y → i ≤ n
  showing_within b d w = omega (arith, w.going.at.index, angles_within L b (stop_is S ts start d))
