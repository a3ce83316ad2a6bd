-- The body of the second walk's loop, as the code holds its state: the laws of spreading for loops, with the places that the code does not keep.
use mathlib.Core.Path.{◌≡◌, refl, ◌∙◌}
use mathlib.Core.Bool.{Bool, true, false, cond, not, ◌&&◌}
use mathlib.Core.List.{List, ◌∷◌}
use mathlib.Core.Logic.{◌≢◌}
use Prim.Native.Nat.{ℕ, suc, ◌+◌, ◌≤◌, ◌<◌}
use native.Mathlib.Nat.{add-zero}
use native.Mathlib.Omega.{arith}
use lib.Dec.{eqb}
use Rattle.distribute.specs.Spread.Steps.{Steps, Lawful}
use Rattle.distribute.specs.Spread.Spread.{State, marked, second_walk}
use Rattle.distribute.proofs.SpreadLaws.Places.{is_stop}
use Rattle.distribute.proofs.SpreadLaws.Loops.{second_left, angles_left}
use Rattle.distribute.proofs.SpreadLaws.Bodies as Bodies
use Rattle.distribute.proofs.SpreadLaws.Bodies.{state_on}
use Rattle.distribute.specs.Walks.Walks.{state_of, more_turned}
use Rattle.distribute.specs.declared.walks.Counts.{Counts}

-- halfedge e, at angle i of the plan p: a marked one stays as it is
pub record Turned (S : Steps) (ts : S.Tangents) (p : S.Plan) (i : ℕ) (ts' : S.Tangents) (p' : S.Plan) (i' e : ℕ) : Type 0 where
  pub tangents_are : ts' ≡ cond (marked S ts e) ts (S.write ts e (S.turn p (S.read ts e)))
  pub plan_is : p' ≡ cond (marked S ts e) p (S.next p)
  pub index_is : i' ≡ cond (marked S ts e) i (i + 1)

-- the walk has come to x with the tangents us, of which it turned i; it set out with the plan p₀ and so many angles
pub record SecondGoing {S : Steps} (L : Lawful S) (ts : S.Tangents) (start angles : ℕ) (p₀ : S.Plan) (us : S.Tangents) (x i : ℕ) (p : S.Plan) (k : Counts) (places : List ℕ) : Type 0 where
  pub after : List ℕ
  pub going : Bodies.SecondGoing L ts start angles p₀ (state_of S ts k places) x i p (state_of S us (more_turned k i) after)

module _ {S : Steps} (L : Lawful S) {ts : S.Tangents} {start angles : ℕ} {p₀ : S.Plan} where
  open S use {Tangents, Plan, n, step, fixed}
  open L use {Whole}

  pub second_going : start < n → is_stop S ts start ≡ true → Whole ts → angles ≡ angles_left S ts start → (k : Counts) (places : List ℕ)
      → SecondGoing L ts start angles p₀ ts start 0 p₀ k places
  second_going b d w e k places = record { after = places; going = rw (add-zero k.turned) (Bodies.second_going L b d w (λ x. refl) e) }

  module _ {us : Tangents} {x i : ℕ} {p : Plan} {k : Counts} {places : List ℕ} (w : SecondGoing L ts start angles p₀ us x i p k places) {y : ℕ} (e : y ≡ step x) where
    abbrev st : State S
    st = state_of S us (more_turned k i) w.after

    pub second_leaves : not (eqb y start) && fixed y ≡ true → (after : List ℕ) × (second_walk S (suc n) start start p₀ (state_of S ts k places) ≡ state_of S us (more_turned k i) after)
    second_leaves d = (w.after, Bodies.second_leaves L w.going e d)

    pub second_less : not (eqb y start) && fixed y ≡ false → y ≢ start → second_left S y < second_left S x
    second_less d o = Bodies.second_less L w.going e d o

    module _ {us' : Tangents} {p' : Plan} {i' : ℕ} (t : Turned S us p i us' p' i' y) where
      state_is : (later : List ℕ) × (state_on S y p st ≡ state_of S us' (more_turned k i') later)
      state_is = go (marked S us y) refl
        where
          go : (b : Bool) → marked S us y ≡ b → (later : List ℕ) × (state_on S y p st ≡ state_of S us' (more_turned k i') later)
          go true m = (w.after, rw (m, rw m at t.tangents_are, rw m at t.index_is) refl)
          go false m =
              let j : i' ≡ i + 1 = rw m at t.index_is in
              let q : suc (k.turned + i) ≡ k.turned + i' = omega arith in
              (y ∷ w.after, rw (m, q, ← (rw m at t.tangents_are)) refl)

      pub second_next : not (eqb y start) && fixed y ≡ false → y ≢ start → SecondGoing L ts start angles p₀ us' y i' p' k places
      second_next d o = let s = state_is in go s.0 s.1
        where
          go : (later : List ℕ) → state_on S y p st ≡ state_of S us' (more_turned k i') later → SecondGoing L ts start angles p₀ us' y i' p' k places
          go later q = record { after = later; going = rw (← q, t.plan_is, t.index_is) (Bodies.second_next L w.going e d o) }

      -- it ends at its start, which it turns
      pub second_over : y ≡ start → (after : List ℕ) × (second_walk S (suc n) start start p₀ (state_of S ts k places) ≡ state_of S us' (more_turned k i') after)
      second_over o = (state_is.0, Bodies.second_over L w.going e o ∙ state_is.1)

      pub second_few : i' ≤ angles
      second_few = rw t.index_is (Bodies.second_few L w.going e)
