-- What holds of both walks from one start: the guards never end them, and there is an angle for each tangent turned.
use mathlib.Core.Path.{◌≡◌, refl, sym, ap, ◌∙◌}
use mathlib.Core.Bool.{true}
use Prim.Native.Nat.{ℕ, ◌+◌, ◌≤◌, ◌<◌}
use native.Mathlib.Omega.{arith}
use lib.ListN.{length}
use Rattle.cycles.specs.Walk.{path}
use Rattle.cycles.proofs.Count.{Below}
use Rattle.cycles.proofs.Orbits.{path_below, path_fuel, end_fuel}
use Rattle.distribute.specs.Spread.Steps.{Steps, Lawful}
use Rattle.distribute.specs.Spread.Spread.{State, marked, first_walk, second_walk}
use Rattle.distribute.specs.Spread.Order.{FixedUnmarked, Unguarded, AngleCount, AnglesSuffice}
use Rattle.distribute.proofs.SpreadLaws.Sublists.{select_sublist, sublist_count, sublist_length}
use Rattle.distribute.proofs.SpreadLaws.Turns.{SameMarks, all_turning}
use Rattle.distribute.proofs.SpreadLaws.Places.{is_stop, is_turned, gather_places, turn_places, turns_gathers}
use Rattle.distribute.proofs.SpreadLaws.Walks.{gather_size, first_is, second_is}

module _ {S : Steps} (L : Lawful S) (ts : S.Tangents) (start : ℕ) (start_below : start < S.n) where
  open S use {Tangents, Gathered, Plan, n, step, fixed, read, begin}
  open L use {permutes, Whole}

  -- what the second walk from a fixed start turns are halfedges of the mesh
  turned_below : fixed start ≡ true → (k : ℕ) → Below n (turn_places S ts start k start)
  turned_below f k e m = path_below permutes fixed start start_below f k e (omega (arith, sublist_count e (select_sublist (is_turned S ts start) (path step fixed k start))))

  module _ (h : FixedUnmarked S ts start) where
    stop_start : is_stop S ts start ≡ true
    stop_start = rw h.1 h.0

    pub first_unguarded : (k looked : ℕ) (g : Gathered) → n ≤ k → first_walk S k ts start start looked g ≡ first_walk S n ts start start looked g
    first_unguarded k looked g l =
        first_is S ts ts (λ e. refl) start h.1 k start looked g
        ∙ rw (path_fuel permutes (is_stop S ts) start start_below stop_start k l, end_fuel permutes (is_stop S ts) start start_below stop_start k l)
        (sym (first_is S ts ts (λ e. refl) start h.1 n start looked g))

    module _ (k : ℕ) (p : Plan) (st : State S) (w : Whole st.tangents) (same : SameMarks S ts st.tangents) where
      pub second_unguarded : n ≤ k → second_walk S k start start p st ≡ second_walk S n start start p st
      second_unguarded l =
          second_is S ts L start h.0 k start p st start_below w same
          ∙ rw (path_fuel permutes fixed start start_below h.0 k l) (sym (second_is S ts L start h.0 n start p st start_below w same))

      pub second_within : (second_walk S k start start p st).turned ≤ st.turned + length (gather_places S ts k start)
      second_within =
          omega (
            arith,
            ap (λ (r : State S). r.turned) (second_is S ts L start h.0 k start p st start_below w same),
            (all_turning L (turn_places S ts start k start) p st (turned_below h.0 k) w).turned,
            sublist_length (turns_gathers S ts start k start),
          )

    -- the first walk gathers an angle for each of `gather_places`
    pub angles_gathered : (size : Gathered → ℕ) → AngleCount S size → (k looked : ℕ)
        → size (first_walk S k ts start start looked (begin start (read ts start))).gathered ≡ length (gather_places S ts k start)
    angles_gathered size z k looked =
        rw (first_is S ts ts (λ e. refl) start h.1 k start looked (begin start (read ts start)))
        (omega (arith, gather_size S size z.grows ts start (gather_places S ts k start) (begin start (read ts start)), z.at_start start (read ts start)))

  -- ---- THE CLAIMS

  pub unguarded : Whole ts → FixedUnmarked S ts start → Unguarded S ts start
  unguarded w h = record {
    first_walk = first_unguarded h;
    second_walk = λ k p st l e. second_unguarded h k p st (rw e w) (λ x. ap (λ (u : Tangents). marked S u x) e) l;
  }

  pub angles_suffice : Whole ts → FixedUnmarked S ts start → AnglesSuffice S ts start
  angles_suffice w h size z k looked p st e =
      omega (arith, second_within h k p st (rw e w) (λ x. ap (λ (u : Tangents). marked S u x) e), angles_gathered h size z k looked)
