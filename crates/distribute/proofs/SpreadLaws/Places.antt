-- The places of both walks, as three lists, each a sublist of the next: `turn_places` are the halfedges that the second walk turns, `gather_places` those whose
-- tangents the first one gathers, `look_places` those that it steps onto. The marks are those of the tangents `ts`.
use mathlib.Core.Path.{◌≡◌, refl, sym, ap, ◌∙◌}
use mathlib.Core.Bool.{Bool, true, false, true≢false, not, ◌&&◌, ◌||◌}
use mathlib.Core.List.{List, [], ◌∷◌}
use Prim.Native.Nat.{ℕ, zero, suc}
use lib.Dec.{eqb}
use Rattle.cycles.specs.Walk.{path}
use Rattle.cycles.proofs.Paths.{path_on, path_last}
use Rattle.distribute.specs.Spread.Steps.{Steps}
use Rattle.distribute.specs.Spread.Spread.{marked}
use Rattle.distribute.specs.Spread.Order.{FixedUnmarked}
use Rattle.distribute.proofs.SpreadLaws.Sublists.{Sublist, none, keep, select, select_nil, select_yes, select_no, select_sublist}

pub and_split : (a b : Bool) → not a && b ≡ true → (b ≡ true) × (a ≡ false)
and_split true b e = absurd (true≢false (sym e))
and_split false b e = (e, refl)

module _ (S : Steps) (ts : S.Tangents) where
  open S use {step, fixed}

  abbrev pub unmarked : ℕ → Bool
  unmarked e = not (marked S ts e)

  -- the first walk ends at a fixed, unmarked halfedge
  abbrev pub is_stop : ℕ → Bool
  is_stop e = unmarked e && fixed e

  -- the second one ends at a fixed halfedge, and turns no fixed one but the start
  abbrev pub is_turned : ℕ → ℕ → Bool
  is_turned start e = unmarked e && (not (fixed e) || eqb e start)

  pub stop_is : (e : ℕ) → is_stop e ≡ true → FixedUnmarked S ts e
  stop_is e d = and_split (marked S ts e) (fixed e) d

  -- with k steps to go, from `here` on
  abbrev pub look_places : ℕ → ℕ → List ℕ
  look_places k here = path step is_stop k here

  abbrev pub gather_places : ℕ → ℕ → List ℕ
  gather_places k here = select unmarked (look_places k here)

  abbrev pub turn_places : ℕ → ℕ → ℕ → List ℕ
  turn_places start k here = select (is_turned start) (path step fixed k here)

  pub gathers_looks : (k here : ℕ) → Sublist (gather_places k here) (look_places k here)
  gathers_looks k here = select_sublist unmarked (look_places k here)

  module _ (k here : ℕ) where
    -- one step: what is gathered
    pub gather_passes : marked S ts (step here) ≡ true → gather_places (suc k) here ≡ gather_places k (step here)
    gather_passes m =
        ap (select unmarked) (path_on step is_stop k here (rw m)) ∙ select_no unmarked (step here) (look_places k (step here)) (rw m)

    pub gather_on : marked S ts (step here) ≡ false → fixed (step here) ≡ false → gather_places (suc k) here ≡ step here ∷ gather_places k (step here)
    gather_on m f =
        ap (select unmarked) (path_on step is_stop k here (rw m f)) ∙ select_yes unmarked (step here) (look_places k (step here)) (rw m)

    pub gather_last : marked S ts (step here) ≡ false → fixed (step here) ≡ true → gather_places (suc k) here ≡ step here ∷ []
    gather_last m f =
        ap (select unmarked) (path_last step is_stop k here (rw m f)) ∙ select_yes unmarked (step here) [] (rw m) ∙ ap (λ (l : List ℕ). step here ∷ l) (select_nil unmarked)

    -- one step: what is turned
    module _ (start : ℕ) where
      pub turn_ends : fixed (step here) ≡ true → eqb (step here) start ≡ false → turn_places start (suc k) here ≡ []
      turn_ends f q =
          ap (select (is_turned start)) (path_last step fixed k here f) ∙ select_no (is_turned start) (step here) [] (by (marked S ts (step here)) refl) ∙ select_nil (is_turned start)
        where
          by : (b : Bool) → marked S ts (step here) ≡ b → is_turned start (step here) ≡ false
          by true m = rw m
          by false m = rw (m, f) q

      pub turn_back : fixed (step here) ≡ true → marked S ts (step here) ≡ true → turn_places start (suc k) here ≡ []
      turn_back f m =
          ap (select (is_turned start)) (path_last step fixed k here f) ∙ select_no (is_turned start) (step here) [] (rw m) ∙ select_nil (is_turned start)

      pub turn_last : fixed (step here) ≡ true → eqb (step here) start ≡ true → marked S ts (step here) ≡ false → turn_places start (suc k) here ≡ step here ∷ []
      turn_last f q m =
          ap (select (is_turned start)) (path_last step fixed k here f) ∙ select_yes (is_turned start) (step here) [] (rw (m, f) q)
          ∙ ap (λ (l : List ℕ). step here ∷ l) (select_nil (is_turned start))

      pub turn_passes : fixed (step here) ≡ false → marked S ts (step here) ≡ true → turn_places start (suc k) here ≡ turn_places start k (step here)
      turn_passes f m =
          ap (select (is_turned start)) (path_on step fixed k here f) ∙ select_no (is_turned start) (step here) (path step fixed k (step here)) (rw m)

      pub turn_on : fixed (step here) ≡ false → marked S ts (step here) ≡ false → turn_places start (suc k) here ≡ step here ∷ turn_places start k (step here)
      turn_on f m =
          ap (select (is_turned start)) (path_on step fixed k here f) ∙ select_yes (is_turned start) (step here) (path step fixed k (step here)) (rw (m, f))

  -- the second walk turns nothing but what the first one gathered
  pub turns_gathers : (start k here : ℕ) → Sublist (turn_places start k here) (gather_places k here)
  unfolding path select
  turns_gathers start zero here = none
  turns_gathers start (suc k) here = go (fixed (step here)) refl (marked S ts (step here)) refl (eqb (step here) start) refl (turns_gathers start k (step here))
    where
      go : (f : Bool) → fixed (step here) ≡ f → (b : Bool) → marked S ts (step here) ≡ b → (q : Bool) → eqb (step here) start ≡ q
          → Sublist (turn_places start k (step here)) (gather_places k (step here)) → Sublist (turn_places start (suc k) here) (gather_places (suc k) here)
      go true f true m q e ih = rw (turn_back k here start f m) none
      go true f false m true e ih = rw (turn_last k here start f e m, gather_last k here m f) (keep none)
      go true f false m false e ih = rw (turn_ends k here start f e) none
      go false f true m q e ih = rw (turn_passes k here start f m, gather_passes k here m) ih
      go false f false m q e ih = rw (turn_on k here start f m, gather_on k here m f) (keep ih)
