-- Both walks in closed form: the first gathers `gather_places`, the second turns `turn_places`. The tangents at hand may be others than `ts`, with the same marks.
use mathlib.Core.Path.{◌≡◌, refl, sym, ap, ◌∙◌}
use mathlib.Core.Bool.{Bool, true, false, true≢false}
use mathlib.Core.List.{List, [], ◌∷◌}
use Prim.Native.Nat.{ℕ, zero, suc, ◌+◌, ◌<◌}
use native.Mathlib.Omega.{arith}
use lib.Dec.{eqb}
use lib.ListN.{length}
use borrow.Author.Tests.{eqb-true}
use Rattle.cycles.specs.Count.{count, ◌∈◌}
use Rattle.cycles.specs.Walk.{path, walk_end}
use Rattle.cycles.proofs.Count.{delta_equal}
use Rattle.cycles.proofs.Paths.{path_on, path_last, end_on, end_last}
use Rattle.distribute.specs.Spread.Steps.{Steps, Lawful}
use Rattle.distribute.specs.Spread.Spread.{Found, State, marked, first_walk, second_walk, turn_at}
use Rattle.distribute.proofs.SpreadLaws.Branches.{first_none, first_passes, first_last, first_gathers, second_none, second_ends, second_back, second_passes, second_last, second_turns}
use Rattle.distribute.proofs.SpreadLaws.Sublists.{select}
use Rattle.distribute.proofs.SpreadLaws.Turns.{SameMarks, turn_all, turn_whole, turn_marks}
use Rattle.distribute.proofs.SpreadLaws.Places.{is_stop, look_places, gather_places, turn_places, gather_passes, gather_on, gather_last, turn_ends, turn_back, turn_last, turn_passes, turn_on}

-- the tangents of a list of halfedges gathered in order
unfoldable pub gather_all : (S : Steps) → S.Tangents → ℕ → List ℕ → S.Gathered → S.Gathered
gather_all S u start [] g = g
gather_all S u start (c ∷ cs) g = gather_all S u start cs (S.gather start c (S.read u c) g)

-- it reads nothing but their tangents
pub gather_same : (S : Steps) (u w : S.Tangents) (start : ℕ) (cs : List ℕ) (g : S.Gathered) → ((e : ℕ) → e ∈ cs → S.read u e ≡ S.read w e)
    → gather_all S u start cs g ≡ gather_all S w start cs g
unfolding gather_all count
gather_same S u w start [] g h = refl
gather_same S u w start (c ∷ cs) g h =
    rw (h c (omega (arith, delta_equal c c refl))) (gather_same S u w start cs (S.gather start c (S.read w c) g) (λ e m. h e (omega arith)))

-- a size that each halfedge gathered adds one to
pub gather_size : (S : Steps) (size : S.Gathered → ℕ) → ((start c : ℕ) (v : S.Tangent) (g : S.Gathered) → size (S.gather start c v g) ≡ suc (size g))
    → (u : S.Tangents) (start : ℕ) (cs : List ℕ) (g : S.Gathered) → size (gather_all S u start cs g) ≡ length cs + size g
unfolding gather_all
gather_size S size grows u start [] g = omega arith
gather_size S size grows u start (c ∷ cs) g =
    omega (arith, gather_size S size grows u start cs (S.gather start c (S.read u c) g), grows start c (S.read u c) g)

module _ (S : Steps) (ts : S.Tangents) where
  open S use {Tangents, Gathered, Plan, n, step, fixed, read}

  -- what the first walk finds, with the tangents u
  abbrev pub found_by : ℕ → Tangents → ℕ → ℕ → ℕ → Gathered → Found S
  found_by k u start here l g = record {
    last = walk_end step (is_stop S ts) k here;
    looked = length (look_places S ts k here) + l;
    gathered = gather_all S u start (gather_places S ts k here) g;
  }

  module _ (u : Tangents) (start : ℕ) where
    -- one step of what is found
    found_passes : (k here l : ℕ) (g : Gathered) → marked S ts (step here) ≡ true → found_by (suc k) u start here l g ≡ found_by k u start (step here) (suc l) g
    found_passes k here l g m = rw (end_on step (is_stop S ts) k here (rw m), gather_passes S ts k here m, looks) refl
      where
        looks : length (look_places S ts (suc k) here) + l ≡ length (look_places S ts k (step here)) + suc l
        looks = omega (arith, ap length (path_on step (is_stop S ts) k here (rw m)))

    found_gathers : (k here l : ℕ) (g : Gathered) → marked S ts (step here) ≡ false → fixed (step here) ≡ false
        → found_by (suc k) u start here l g ≡ found_by k u start (step here) (suc l) (S.gather start (step here) (read u (step here)) g)
    unfolding gather_all
    found_gathers k here l g m f = rw (end_on step (is_stop S ts) k here (rw m f), gather_on S ts k here m f, looks) refl
      where
        looks : length (look_places S ts (suc k) here) + l ≡ length (look_places S ts k (step here)) + suc l
        looks = omega (arith, ap length (path_on step (is_stop S ts) k here (rw m f)))

    found_last : (k here l : ℕ) (g : Gathered) → marked S ts (step here) ≡ false → fixed (step here) ≡ true
        → found_by (suc k) u start here l g ≡ record { last = step here; looked = suc l; gathered = S.gather start (step here) (read u (step here)) g }
    unfolding gather_all
    found_last k here l g m f = rw (end_last step (is_stop S ts) k here (rw m f), gather_last S ts k here m f, looks) refl
      where
        looks : length (look_places S ts (suc k) here) + l ≡ suc l
        looks = omega (arith, ap length (path_last step (is_stop S ts) k here (rw m f)))

    found_none : (here l : ℕ) (g : Gathered) → found_by 0 u start here l g ≡ record { last = here; looked = l; gathered = g }
    unfolding path walk_end select gather_all
    found_none here l g = let z : 0 + l ≡ l = omega arith in rw z

  module _ (u : Tangents) (same : SameMarks S ts u) (start : ℕ) (start_unmarked : marked S ts start ≡ false) where
    pub first_is : (k here l : ℕ) (g : Gathered) → first_walk S k u start here l g ≡ found_by k u start here l g
    first_is zero here l g = first_none S u start here l g ∙ sym (found_none u start here l g)
    first_is (suc k) here l g = go (marked S ts (step here)) refl (fixed (step here)) refl (first_is k (step here) (suc l))
      where
        other : marked S ts (step here) ≡ true → eqb (step here) start ≡ false
        other m = by (eqb (step here) start) refl
          where
            by : (b : Bool) → eqb (step here) start ≡ b → eqb (step here) start ≡ false
            by false q = q
            by true q = absurd (true≢false (sym m ∙ ap (marked S ts) (eqb-true (step here) start q) ∙ start_unmarked))

        go : (b : Bool) → marked S ts (step here) ≡ b → (f : Bool) → fixed (step here) ≡ f
            → ((g : Gathered) → first_walk S k u start (step here) (suc l) g ≡ found_by k u start (step here) (suc l) g)
            → first_walk S (suc k) u start here l g ≡ found_by (suc k) u start here l g
        go true m f fe ih = first_passes S u start here l g k (same (step here) ∙ m) (other m) ∙ ih g ∙ sym (found_passes u start k here l g m)
        go false m true fe ih = first_last S u start here l g k (same (step here) ∙ m) fe ∙ sym (found_last u start k here l g m fe)
        go false m false fe ih =
            first_gathers S u start here l g k (same (step here) ∙ m) fe ∙ ih (S.gather start (step here) (read u (step here)) g) ∙ sym (found_gathers u start k here l g m fe)

  module _ (L : Lawful S) (start : ℕ) (start_fixed : fixed start ≡ true) where
    open L use {permutes, Whole}

    pub second_is : (k here : ℕ) (p : Plan) (st : State S) → here < n → Whole st.tangents → SameMarks S ts st.tangents
        → second_walk S k start here p st ≡ turn_all S (turn_places S ts start k here) p st
    unfolding path select turn_all
    second_is zero here p st l w m = second_none S start here p st
    second_is (suc k) here p st l w same =
        go (marked S ts (step here)) refl (fixed (step here)) refl (eqb (step here) start) refl (λ p st. second_is k (step here) p st below)
      where
        below : step here < n
        below = permutes.below here l

        go : (b : Bool) → marked S ts (step here) ≡ b → (f : Bool) → fixed (step here) ≡ f → (q : Bool) → eqb (step here) start ≡ q
            → ((p : Plan) (st : State S) → Whole st.tangents → SameMarks S ts st.tangents
            → second_walk S k start (step here) p st ≡ turn_all S (turn_places S ts start k (step here)) p st)
            → second_walk S (suc k) start here p st ≡ turn_all S (turn_places S ts start (suc k) here) p st
        go b m true f false q ih = rw (turn_ends S ts k here start f q) (second_ends S start here p st k q f)
        go true m true f true q ih = rw (turn_back S ts k here start f m) (second_back S start here p st k q (same (step here) ∙ m))
        go false m true f true q ih = rw (turn_last S ts k here start f q m) (second_last S start here p st k q f (same (step here) ∙ m))
        go b m false f true q ih = absurd (true≢false (sym start_fixed ∙ ap fixed (sym (eqb-true (step here) start q)) ∙ f))
        go true m false f false q ih =
            rw (turn_passes S ts k here start f m) (second_passes S start here p st k q f (same (step here) ∙ m) ∙ ih p st w same)
        go false m false f false q ih =
            rw (turn_on S ts k here start f m)
            (second_turns S start here p st k f (same (step here) ∙ m)
            ∙ ih (S.next p) (turn_at S (step here) p st) (turn_whole L (step here) p st w) (turn_marks L ts (step here) p st below w same))
