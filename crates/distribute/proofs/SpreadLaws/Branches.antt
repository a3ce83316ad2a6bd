-- Each way that a step of spreading goes, as a lemma: what a proof of code cites, and what the laws of the walks go by.
use mathlib.Core.Path.{◌≡◌, refl, sym, ap, ◌∙◌}
use mathlib.Core.Bool.{Bool, true, false, true≢false}
use mathlib.Core.List.{List, [], ◌∷◌}
use Prim.Native.Nat.{ℕ, suc, ◌-◌, ◌≤◌, ◌<◌}
use native.Mathlib.Omega.{arith}
use lib.Dec.{eqb}
use Rattle.distribute.specs.Spread.Steps.{Steps}
use Rattle.distribute.specs.Spread.Spread.{Found, State, marked, first_walk, turn_at, second_walk, walks_from, spread_from, spread_at, spread_on, handed_in, fixed_from, pass}
use Rattle.distribute.proofs.SpreadLaws.Places.{is_stop, stop_is}

-- ---- the first walk

module _ (S : Steps) (ts : S.Tangents) (start here looked : ℕ) (g : S.Gathered) where
  open S use {step, fixed, read, gather}

  pub first_none : first_walk S 0 ts start here looked g ≡ record { last = here; looked = looked; gathered = g }
  unfolding first_walk
  first_none = refl

  module _ (k : ℕ) where
    -- marked, and another: it goes on
    pub first_passes : marked S ts (step here) ≡ true → eqb (step here) start ≡ false
        → first_walk S (suc k) ts start here looked g ≡ first_walk S k ts start (step here) (suc looked) g
    unfolding first_walk
    first_passes m q = rw (m, first_walk) (rw (q, first_walk))

    -- marked, and the start: it ends
    pub first_back : marked S ts (step here) ≡ true → eqb (step here) start ≡ true
        → first_walk S (suc k) ts start here looked g ≡ record { last = step here; looked = suc looked; gathered = g }
    unfolding first_walk
    first_back m q = rw (m, first_walk) (rw q)

    -- unmarked and fixed: it gathers and ends
    pub first_last : marked S ts (step here) ≡ false → fixed (step here) ≡ true
        → first_walk S (suc k) ts start here looked g ≡ record { last = step here; looked = suc looked; gathered = gather start (step here) (read ts (step here)) g }
    unfolding first_walk
    first_last m f = rw (m, first_walk) (rw f)

    -- unmarked and not fixed: it gathers and goes on
    pub first_gathers : marked S ts (step here) ≡ false → fixed (step here) ≡ false
        → first_walk S (suc k) ts start here looked g ≡ first_walk S k ts start (step here) (suc looked) (gather start (step here) (read ts (step here)) g)
    unfolding first_walk
    first_gathers m f = rw (m, first_walk) (rw f)

-- ---- the second walk

module _ (S : Steps) (start here : ℕ) (p : S.Plan) (st : State S) where
  open S use {step, fixed, next}

  pub second_none : second_walk S 0 start here p st ≡ st
  unfolding second_walk
  second_none = refl

  module _ (k : ℕ) where
    -- fixed, and another than the start: it ends
    pub second_ends : eqb (step here) start ≡ false → fixed (step here) ≡ true → second_walk S (suc k) start here p st ≡ st
    unfolding second_walk
    second_ends q f = rw (q, second_walk) (rw f)

    -- the start, marked: it ends
    pub second_back : eqb (step here) start ≡ true → marked S st.tangents (step here) ≡ true → second_walk S (suc k) start here p st ≡ st
    unfolding second_walk
    second_back q m = rw (q, second_walk) (rw m (rw q))

    -- another, not fixed, marked: it goes on
    pub second_passes : eqb (step here) start ≡ false → fixed (step here) ≡ false → marked S st.tangents (step here) ≡ true
        → second_walk S (suc k) start here p st ≡ second_walk S k start (step here) p st
    unfolding second_walk
    second_passes q f m = rw (q, second_walk) (rw f (rw m (rw q)))

    -- the start, fixed and unmarked: it turns it and ends
    pub second_last : eqb (step here) start ≡ true → fixed (step here) ≡ true → marked S st.tangents (step here) ≡ false
        → second_walk S (suc k) start here p st ≡ turn_at S (step here) p st
    unfolding second_walk
    second_last q f m = rw (q, second_walk) (rw m (rw f))

    -- not fixed and unmarked: it turns it and goes on at the next angle
    pub second_turns : fixed (step here) ≡ false → marked S st.tangents (step here) ≡ false
        → second_walk S (suc k) start here p st ≡ second_walk S k start (step here) (next p) (turn_at S (step here) p st)
    unfolding second_walk
    second_turns f m = go (eqb (step here) start) refl
      where
        go : (b : Bool) → eqb (step here) start ≡ b → second_walk S (suc k) start here p st ≡ second_walk S k start (step here) (next p) (turn_at S (step here) p st)
        go true q = rw (q, second_walk) (rw m (rw f))
        go false q = rw (q, second_walk) (rw f (rw m (rw f)))

-- ---- one start

module _ (S : Steps) where
  open S use {n, read, begin}

  -- what the first walk from a start finds
  abbrev pub found_from : ℕ → State S → Found S
  found_from start st = first_walk S (suc n) st.tangents start start st.looked (begin start (read st.tangents start))

  -- the state with another count of steps
  abbrev pub with_looked : State S → ℕ → State S
  with_looked st l = record { tangents = st.tangents; looked = l; turned = st.turned; places = st.places }

module _ (S : Steps) (start : ℕ) (st : State S) where
  open S use {n, turns_none, plan}

  pub walks_first : turns_none (found_from S start st).gathered ≡ true → walks_from S start st ≡ with_looked S st (found_from S start st).looked
  unfolding walks_from
  walks_first e = rw (e, walks_from)

  pub walks_both : turns_none (found_from S start st).gathered ≡ false
      → walks_from S start st
      ≡ second_walk S (suc n) start start (plan start (found_from S start st).last (found_from S start st).gathered) (with_looked S st (found_from S start st).looked)
  unfolding walks_from
  walks_both e = rw (e, walks_from)

  pub from_marked : marked S st.tangents start ≡ true → spread_from S start st ≡ st
  unfolding spread_from
  from_marked e = rw (e, spread_from)

  pub from_unmarked : marked S st.tangents start ≡ false → spread_from S start st ≡ walks_from S start st
  unfolding spread_from
  from_unmarked e = rw (e, spread_from)

-- ---- one turn of the loop over the halfedges

module _ (S : Steps) (start : ℕ) (st : State S) where
  open S use {n, fixed, turns_none, plan}

  pub at_fixed : fixed start ≡ true → spread_at S start st ≡ spread_from S start st
  unfolding spread_at
  at_fixed f = rw f

  pub at_other : fixed start ≡ false → spread_at S start st ≡ st
  unfolding spread_at
  at_other f = rw f

  -- not fixed, or marked: passed over
  pub at_none : is_stop S st.tangents start ≡ false → spread_at S start st ≡ st
  at_none d = go (fixed start) (marked S st.tangents start) refl refl
    where
      go : (a b : Bool) → fixed start ≡ a → marked S st.tangents start ≡ b → spread_at S start st ≡ st
      go false b f m = at_other f
      go true true f m = at_fixed f ∙ from_marked S start st m
      go true false f m = absurd (true≢false (sym f ∙ (rw m at d)))

  -- a start, from which the first walk found f
  module _ (d : is_stop S st.tangents start ≡ true) (f : Found S) (e : f ≡ found_from S start st) where
    walks : spread_at S start st ≡ walks_from S start st
    walks =
        let q = stop_is S st.tangents start d in
        at_fixed q.0 ∙ from_unmarked S start st q.1

    none_is : {b : Bool} → turns_none f.gathered ≡ b → turns_none (found_from S start st).gathered ≡ b
    none_is t = ap (λ (x : Found S). turns_none x.gathered) (sym e) ∙ t

    pub at_first : turns_none f.gathered ≡ true → spread_at S start st ≡ with_looked S st f.looked
    at_first t = walks ∙ walks_first S start st (none_is t) ∙ ap (λ (x : Found S). with_looked S st x.looked) (sym e)

    pub at_both : turns_none f.gathered ≡ false
        → spread_at S start st ≡ second_walk S (suc n) start start (plan start f.last f.gathered) (with_looked S st f.looked)
    at_both t =
        walks ∙ walks_both S start st (none_is t)
        ∙ ap (λ (x : Found S). second_walk S (suc n) start start (plan start x.last x.gathered) (with_looked S st x.looked)) (sym e)

-- ---- a list of starts

module _ (S : Steps) where
  open S use {Tangents, n, fixed}

  pub on_none : (st : State S) → spread_on S [] st ≡ st
  unfolding spread_on
  on_none st = refl

  pub on_next : (start : ℕ) (starts : List ℕ) (st : State S) → spread_on S (start ∷ starts) st ≡ spread_on S starts (spread_from S start st)
  unfolding spread_on
  on_next start starts st = refl

  pub fixed_none : (i : ℕ) → fixed_from S 0 i ≡ []
  unfolding fixed_from
  fixed_none i = refl

  pub fixed_here : (k i : ℕ) → fixed i ≡ true → fixed_from S (suc k) i ≡ i ∷ fixed_from S k (suc i)
  unfolding fixed_from
  fixed_here k i e = rw (e, fixed_from)

  pub fixed_later : (k i : ℕ) → fixed i ≡ false → fixed_from S (suc k) i ≡ fixed_from S k (suc i)
  unfolding fixed_from
  fixed_later k i e = rw (e, fixed_from)

  -- the unit's own pass, start by start: what is left of it from the halfedge i on
  abbrev pub pass_on : ℕ → ℕ → State S → State S
  pass_on k i st = spread_on S (fixed_from S k i) st

  pub pass_all : (ts : Tangents) → pass S ts ≡ pass_on n 0 (handed_in S ts)
  unfolding pass
  pass_all ts = refl

  pub pass_end : (i : ℕ) (st : State S) → pass_on 0 i st ≡ st
  pass_end i st = rw (fixed_none i) (on_none st)

  pub pass_start : (k i : ℕ) (st : State S) → fixed i ≡ true → pass_on (suc k) i st ≡ pass_on k (suc i) (spread_from S i st)
  pass_start k i st e = rw (fixed_here k i e) (on_next i (fixed_from S k (suc i)) st)

  pub pass_over : (k i : ℕ) (st : State S) → fixed i ≡ false → pass_on (suc k) i st ≡ pass_on k (suc i) st
  pass_over k i st e = rw (fixed_later k i e)

  pub pass_at : (k i : ℕ) (st : State S) → pass_on (suc k) i st ≡ pass_on k (suc i) (spread_at S i st)
  pass_at k i st = go (fixed i) refl
    where
      go : (b : Bool) → fixed i ≡ b → pass_on (suc k) i st ≡ pass_on k (suc i) (spread_at S i st)
      go true f = pass_start k i st f ∙ ap (pass_on k (suc i)) (sym (at_fixed S i st f))
      go false f = pass_over k i st f ∙ ap (pass_on k (suc i)) (sym (at_other S i st f))

  -- before the halfedge i: what is left of the pass over ts gives the whole
  abbrev pub PassLeft : Tangents → ℕ → State S → Type 0
  PassLeft ts i st = pass_on (n - i) i st ≡ pass S ts

  pub left_all : (ts : Tangents) → PassLeft ts 0 (handed_in S ts)
  left_all ts = rw (let z : n - 0 ≡ n = omega arith in z) (sym (pass_all ts))

  pub left_next : (ts : Tangents) (i : ℕ) (st : State S) → i < n → PassLeft ts i st → PassLeft ts (suc i) (spread_at S i st)
  left_next ts i st l e =
      let left : n - i ≡ suc (n - suc i) = omega arith in
      sym (pass_at (n - suc i) i st) ∙ (rw left at e)

  pub left_none : (ts : Tangents) (i : ℕ) (st : State S) → n ≤ i → PassLeft ts i st → st ≡ pass S ts
  left_none ts i st l e =
      let none : n - i ≡ 0 = omega arith in
      sym (pass_end i st) ∙ (rw none at e)
