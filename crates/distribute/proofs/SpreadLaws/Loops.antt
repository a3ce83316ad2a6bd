-- Loops of code over the two walks, which need no guard. `FirstAt` and `SecondAt` are what such a loop keeps of the place x that a walk has come to; a step to
-- y gives a `FirstStep` or a `SecondStep`: what is kept at y, a measure that falls, and that what is left of the walk is the same. The fuel stays n + 1
-- throughout. `first_end`, `second_stop` and `second_end` say what a walk that ends at y comes to.
use mathlib.Core.Path.{◌≡◌, refl, sym, ap, ◌∙◌}
use mathlib.Core.Bool.{Bool, true, false, true≢false}
use mathlib.Core.List.{◌∷◌}
use mathlib.Core.Logic.{◌≢◌}
use Prim.Native.Nat.{ℕ, suc, ◌+◌, ◌≤◌, ◌<◌, zero-le, suc-le-suc}
use native.Mathlib.Nat.{le_trans}
use native.Mathlib.Omega.{arith}
use lib.ListN.{length}
use borrow.Author.Tests.{eq-eqb, ne_eqb}
use Rattle.cycles.specs.Walk.{path, walk_end}
use Rattle.cycles.proofs.Paths.{steps_left, path_some, path_next, end_next}
use Rattle.cycles.proofs.Orbits.{path_within}
use Rattle.cycles.proofs.Loops.{Walking, walking_start, walking_below, walking_step, walking_less}
use Rattle.distribute.specs.Spread.Steps.{Steps, Lawful}
use Rattle.distribute.specs.Spread.Spread.{State, marked, first_walk, turn_at, second_walk}
use Rattle.distribute.specs.Spread.Order.{FixedUnmarked}
use Rattle.distribute.proofs.SpreadLaws.Branches.{first_last, second_ends, second_last}
use Rattle.distribute.proofs.SpreadLaws.Sublists.{select, select_yes, select_no, sublist_length}
use Rattle.distribute.proofs.SpreadLaws.Turns.{SameMarks, turn_all, turn_whole, turn_marks}
use Rattle.distribute.proofs.SpreadLaws.Places.{unmarked, is_stop, is_turned, look_places, gather_places, turn_places, gathers_looks, gather_last}
use Rattle.distribute.proofs.SpreadLaws.Walks.{gather_all, found_by, first_is, second_is}

-- how many steps are left from x on, of the first walk and of the second
abbrev pub first_left : (S : Steps) → S.Tangents → ℕ → ℕ
first_left S ts x = steps_left S.step (is_stop S ts) (suc S.n) x

abbrev pub second_left : (S : Steps) → ℕ → ℕ
second_left S x = steps_left S.step S.fixed (suc S.n) x

-- how many angles the first walk has yet to gather from x on
abbrev pub angles_left : (S : Steps) → S.Tangents → ℕ → ℕ
angles_left S ts x = length (gather_places S ts (suc S.n) x)

module _ (S : Steps) (ts : S.Tangents) (start : ℕ) where
  open S use {Gathered, n, step}

  -- the first walk from `start` has come to x
  pub record FirstAt (x : ℕ) : Type 0 where
    pub from : FixedUnmarked S ts start
    pub walking : Walking step n (is_stop S ts) (suc n) start x

  -- it steps on from x to y, and has gathered h after g
  pub record FirstStep (x y : ℕ) (g h : Gathered) : Type 0 where
    pub to : FirstAt y
    pub less : first_left S ts y < first_left S ts x
    pub left : (l : ℕ) → first_walk S (suc n) ts start x l g ≡ first_walk S (suc n) ts start y (suc l) h

-- ---- one step

module _ {step : ℕ → ℕ} {n : ℕ} {stop : ℕ → Bool} {k s x y : ℕ} (w : Walking step n stop k s x) (e : y ≡ step x) (d : stop y ≡ false) where
  some : 1 ≤ k
  some = omega (arith, w.fuel, w.below)

  path_is : path step stop k x ≡ y ∷ path step stop k y
  path_is = path_next step stop k x some (ap stop (sym e) ∙ d) w.stops ∙ ap (λ (z : ℕ). z ∷ path step stop k z) (sym e)

  end_is : walk_end step stop k x ≡ walk_end step stop k y
  end_is = end_next step stop k x some (ap stop (sym e) ∙ d) w.stops ∙ ap (walk_end step stop k) (sym e)

module _ (S : Steps) (ts : S.Tangents) {start x y : ℕ} (w : Walking S.step S.n (is_stop S ts) (suc S.n) start x) (e : y ≡ S.step x) where
  open S use {n, fixed}

  gather_passed : marked S ts y ≡ true → gather_places S ts (suc n) x ≡ gather_places S ts (suc n) y
  gather_passed m = ap (select (unmarked S ts)) (path_is w e (rw m)) ∙ select_no (unmarked S ts) y (look_places S ts (suc n) y) (rw m)

  gather_taken : marked S ts y ≡ false → fixed y ≡ false → gather_places S ts (suc n) x ≡ y ∷ gather_places S ts (suc n) y
  gather_taken m f = ap (select (unmarked S ts)) (path_is w e (rw m f)) ∙ select_yes (unmarked S ts) y (look_places S ts (suc n) y) (rw m)

  gather_some : marked S ts y ≡ false → 1 ≤ angles_left S ts x
  gather_some m = go (fixed y) refl
    where
      go : (b : Bool) → fixed y ≡ b → 1 ≤ angles_left S ts x
      go true f = omega (arith, ap length (gather_last S ts n x (ap (marked S ts) (sym e) ∙ m) (ap fixed (sym e) ∙ f)))
      go false f = omega (arith, ap length (gather_taken m f))

-- ---- the first walk

module _ {S : Steps} (L : Lawful S) where
  open S use {Gathered, n, step, fixed, read, gather}
  open L use {permutes}

  pub first_begin : {ts : S.Tangents} {start : ℕ} → start < n → FixedUnmarked S ts start → FirstAt S ts start start
  first_begin b h = record { from = h; walking = walking_start permutes (omega arith) b (rw h.1 h.0) }

  -- a walk has at most n steps, and there is a next one
  pub first_within : {ts : S.Tangents} {start : ℕ} → start < n → FixedUnmarked S ts start → first_left S ts start ≤ n
  first_within {ts} {start} b h = path_within permutes (is_stop S ts) start b (rw h.1 h.0) (suc n)

  pub first_some : (ts : S.Tangents) (x : ℕ) → 1 ≤ first_left S ts x
  first_some ts x = path_some step (is_stop S ts) (suc n) x (suc-le-suc zero-le)

  -- so there are at most n angles
  pub angles_within : {ts : S.Tangents} {start : ℕ} → start < n → FixedUnmarked S ts start → angles_left S ts start ≤ n
  angles_within {ts} {start} b h = le_trans (sublist_length (gathers_looks S ts (suc n) start)) (first_within b h)

  module _ {ts : S.Tangents} {start x y : ℕ} (w : FirstAt S ts start x) (e : y ≡ step x) where
    pub first_below : y < n
    first_below = walking_below permutes w.walking e

    first_on : (g h : Gathered) → is_stop S ts y ≡ false → gather_all S ts start (gather_places S ts (suc n) x) g ≡ gather_all S ts start (gather_places S ts (suc n) y) h
        → FirstStep S ts start x y g h
    first_on g h d q = record {
      to = record { from = w.from; walking = walking_step permutes w.walking e d };
      less = walking_less permutes w.walking e d;
      left = λ l. at x l g ∙ same l ∙ sym (at y (suc l) h);
    }
      where
        at : (x l : ℕ) (g : Gathered) → first_walk S (suc n) ts start x l g ≡ found_by S ts (suc n) ts start x l g
        at = first_is S ts ts (λ e. refl) start w.from.1 (suc n)

        same : (l : ℕ) → found_by S ts (suc n) ts start x l g ≡ found_by S ts (suc n) ts start y (suc l) h
        same l =
            let z : first_left S ts x + l ≡ first_left S ts y + suc l = omega (arith, ap length (path_is w.walking e d)) in
            rw (z, q, end_is w.walking e d) refl

    -- marked: nothing is gathered
    pub first_pass : (g : Gathered) → marked S ts y ≡ true → FirstStep S ts start x y g g
    first_pass g m = first_on g g (rw m) (rw (gather_passed S ts w.walking e m))

    -- unmarked, and not fixed
    pub first_gather : (g : Gathered) → marked S ts y ≡ false → fixed y ≡ false → FirstStep S ts start x y g (gather start y (read ts y) g)
    unfolding gather_all
    first_gather g m f = first_on g (gather start y (read ts y) g) (rw m f) (rw (gather_taken S ts w.walking e m f))

    -- unmarked and fixed: it ends
    pub first_end : (l : ℕ) (g : Gathered) → marked S ts y ≡ false → fixed y ≡ true
        → first_walk S (suc n) ts start x l g ≡ record { last = y; looked = suc l; gathered = gather start y (read ts y) g }
    first_end l g m f = rw e (first_last S ts start x l g n (ap (marked S ts) (sym e) ∙ m) (ap fixed (sym e) ∙ f))

    -- a marked halfedge is not the start
    pub first_other : marked S ts y ≡ true → y ≢ start
    first_other m q = true≢false (sym m ∙ ap (marked S ts) q ∙ w.from.1)

-- ---- the second walk

module _ {S : Steps} (L : Lawful S) (ts : S.Tangents) (start angles : ℕ) where
  open S use {Plan, n, step, fixed}

  -- it has come to x, has turned i tangents, and has the state st; the first walk had gathered `angles`
  pub record SecondAt (x i : ℕ) (st : State S) : Type 0 where
    pub from : FixedUnmarked S ts start
    pub to_fixed : Walking step n fixed (suc n) start x
    pub to_stop : Walking step n (is_stop S ts) (suc n) start x
    pub index : i + angles_left S ts x ≡ angles
    pub whole : L.Whole st.tangents
    pub marks : SameMarks S ts st.tangents

  -- it steps on from x to y, with j tangents turned, the plan q and the state sv
  pub record SecondStep (x y j : ℕ) (p q : Plan) (st sv : State S) : Type 0 where
    pub to : SecondAt y j sv
    pub less : second_left S y < second_left S x
    pub left : second_walk S (suc n) start x p st ≡ second_walk S (suc n) start y q sv

module _ {S : Steps} (L : Lawful S) where
  open S use {Plan, n, step, fixed, next}
  open L use {permutes, Whole}

  pub second_begin : {ts : S.Tangents} {start : ℕ} → start < n → FixedUnmarked S ts start → (st : State S) → Whole st.tangents → SameMarks S ts st.tangents
      → SecondAt L ts start (angles_left S ts start) start 0 st
  second_begin b h st v m = record {
    from = h;
    to_fixed = walking_start permutes (omega arith) b h.0;
    to_stop = walking_start permutes (omega arith) b (rw h.1 h.0);
    index = omega arith;
    whole = v;
    marks = m;
  }

  module _ {ts : S.Tangents} {start angles x y i : ℕ} {st : State S} (w : SecondAt L ts start angles x i st) (e : y ≡ step x) where
    pub second_below : y < n
    second_below = walking_below permutes w.to_fixed e

    as_handed : {b : Bool} → marked S st.tangents y ≡ b → marked S ts y ≡ b
    as_handed m = sym (w.marks y) ∙ m

    -- the start is not marked
    pub second_start : y ≡ start → marked S st.tangents y ≡ false
    second_start q = w.marks y ∙ ap (marked S ts) q ∙ w.from.1

    -- there is an angle for each tangent that is turned
    pub index_below : marked S st.tangents y ≡ false → i < angles
    index_below m = omega (arith, w.index, gather_some S ts w.to_stop e (as_handed m))

    not_stop : fixed y ≡ false → is_stop S ts y ≡ false
    not_stop f = go (marked S ts y) refl
      where
        go : (b : Bool) → marked S ts y ≡ b → is_stop S ts y ≡ false
        go true m = rw m
        go false m = rw m f

    second_on : (j : ℕ) (p q : Plan) (sv : State S) → fixed y ≡ false → j + angles_left S ts y ≡ angles → Whole sv.tangents → SameMarks S ts sv.tangents
        → turn_all S (turn_places S ts start (suc n) x) p st ≡ turn_all S (turn_places S ts start (suc n) y) q sv → SecondStep L ts start angles x y j p q st sv
    second_on j p q sv f a v m t = record {
      to = record {
        from = w.from;
        to_fixed = walking_step permutes w.to_fixed e f;
        to_stop = walking_step permutes w.to_stop e (not_stop f);
        index = a;
        whole = v;
        marks = m;
      };
      less = walking_less permutes w.to_fixed e f;
      left = second_is S ts L start w.from.0 (suc n) x p st w.to_fixed.below w.whole w.marks ∙ t
          ∙ sym (second_is S ts L start w.from.0 (suc n) y q sv second_below v m);
    }

    -- marked, and not fixed
    pub second_pass : (p : Plan) → fixed y ≡ false → marked S st.tangents y ≡ true → SecondStep L ts start angles x y i p p st st
    second_pass p f m =
        second_on i p p st f (omega (arith, w.index, ap length (gather_passed S ts w.to_stop e (as_handed m)))) w.whole w.marks (rw places refl)
      where
        places : turn_places S ts start (suc n) x ≡ turn_places S ts start (suc n) y
        places = ap (select (is_turned S ts start)) (path_is w.to_fixed e f) ∙ select_no (is_turned S ts start) y (path step fixed (suc n) y) (rw (as_handed m))

    -- unmarked, and not fixed
    pub second_turn : (p : Plan) → fixed y ≡ false → marked S st.tangents y ≡ false → SecondStep L ts start angles x y (suc i) p (next p) st (turn_at S y p st)
    unfolding turn_all
    second_turn p f m =
        second_on (suc i) p (next p) (turn_at S y p st) f (omega (arith, w.index, ap length (gather_taken S ts w.to_stop e (as_handed m) f)))
        (turn_whole L y p st w.whole) (turn_marks L ts y p st second_below w.whole w.marks) (rw places refl)
      where
        places : turn_places S ts start (suc n) x ≡ y ∷ turn_places S ts start (suc n) y
        places =
            ap (select (is_turned S ts start)) (path_is w.to_fixed e f)
            ∙ select_yes (is_turned S ts start) y (path step fixed (suc n) y) (rw (as_handed m, f))

    -- fixed, and another than the start: it ends
    pub second_stop : (p : Plan) → y ≢ start → fixed y ≡ true → second_walk S (suc n) start x p st ≡ st
    second_stop p d f = second_ends S start x p st n (ne_eqb (step x) start (λ q. d (e ∙ q))) (ap fixed (sym e) ∙ f)

    -- the start: it is turned, and the walk ends
    pub second_end : (p : Plan) → y ≡ start → second_walk S (suc n) start x p st ≡ turn_at S y p st
    second_end p q =
        rw e (second_last S start x p st n (eq-eqb (step x) start (sym e ∙ q)) (ap fixed (sym e ∙ q) ∙ w.from.0)
        (ap (marked S st.tangents) (sym e) ∙ second_start q))
