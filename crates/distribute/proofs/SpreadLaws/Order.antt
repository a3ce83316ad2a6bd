-- Spreading does not depend on the order of its starts: the proof of `OrderFree`.
use mathlib.Core.Path.{◌≡◌, refl, sym, ap, ◌∙◌, subst}
use mathlib.Core.Bool.{Bool, true, false, true≢false}
use mathlib.Core.List.{List, [], ◌∷◌, reverse_aux}
use mathlib.Core.Logic.{◌≢◌, ◌⊎◌, inl, inr}
use Prim.Native.Nat.{ℕ, suc, ◌*◌, ◌≤◌, ◌<◌}
use native.Mathlib.Nat.{le_trans, le_antisymm, zero-mul, mul-zero}
use native.Mathlib.Decide.{ℕ_discrete}
use native.Mathlib.Omega.{arith}
use lib.ListN.{length}
use Rattle.cycles.specs.Count.{count, ◌∈◌, Exactly}
use Rattle.common.specs.Count.{sum}
use Rattle.common.proofs.Sums.{sum_ext, sum_le, sum_one}
use Rattle.cycles.proofs.Count.{delta_equal, delta_other, total, Below, total_count, total_some, exactly, total_has, total_le, total_length, count_reverse, zero_or_more}
use Rattle.cycles.proofs.Orbits.{iter_below, path_apart, path_index, sole_stop, stop_before, reaches_back}
use Rattle.distribute.specs.Spread.Steps.{Steps, Lawful}
use Rattle.distribute.specs.Spread.Spread.{State, spread_from, spread_at, spread_on, handed_in, spread, fixed_from, pass}
use Rattle.distribute.specs.Spread.Order.{NamesFixed, Touched, Sole, WasTurned, OrderFree}
use Rattle.distribute.proofs.SpreadLaws.Branches.{at_fixed, at_other, PassLeft, left_all, left_next, left_none}
use Rattle.distribute.proofs.SpreadLaws.Turns.{SameMarks, SameCounts, on_tangents}
use Rattle.distribute.proofs.SpreadLaws.Places.{is_stop, stop_is}
use Rattle.distribute.proofs.SpreadLaws.Starts.{looks_of, turns_of, after_start, looks_of_lem, looks_unmarked, turns_looks, turns_fixed, looks_below, looks_once, turns_below, Untouched, StartDoes, start_does, from_same}
use Rattle.distribute.proofs.SpreadLaws.Own.{own}

module _ {S : Steps} (L : Lawful S) (ts : S.Tangents) (whole : L.Whole ts) where
  open S use {n, step, fixed, read, weight, is_mark}
  open L use {permutes, Whole}

  -- a list of fixed halfedges, none of them twice
  pub record Listed (l : List ℕ) : Type 0 where
    pub below : Below n l
    pub flag : (s : ℕ) → s ∈ l → fixed s ≡ true
    pub once : (s : ℕ) → count s l ≤ 1

  -- the walks of two fixed halfedges have no halfedge in common
  looks_apart : (s r e : ℕ) → s < n → r < n → fixed s ≡ true → fixed r ≡ true → e ∈ looks_of S ts s → e ∈ looks_of S ts r → s ≡ r
  looks_apart s r e ls lr fs fr hs hr =
      let ms = looks_unmarked S ts s e hs in
      let mr = looks_unmarked S ts r e hr in
      path_apart permutes (is_stop S ts) s ls (rw ms fs) r lr (rw mr fr) e (rw (looks_of_lem S ts s ms) at hs) (rw (looks_of_lem S ts r mr) at hr)

  -- ---- what holds once the starts of a list have been taken, in whatever order

  pub record After (l : List ℕ) (st : State S) : Type 0 where
    pub looked : st.looked ≡ total l (λ s. length (looks_of S ts s))
    pub turned : st.turned ≡ total l (λ s. length (turns_of S ts s))
    pub places : (e : ℕ) → count e st.places ≡ total l (λ s. count e (turns_of S ts s))
    pub is_whole : Whole st.tangents
    pub weights : (e : ℕ) → weight (read st.tangents e) ≡ weight (read ts e)
    pub kept : (e : ℕ) → total l (λ s. count e (turns_of S ts s)) ≡ 0 → read st.tangents e ≡ read ts e
    pub value : (s e : ℕ) → s ∈ l → e ∈ turns_of S ts s → read st.tangents e ≡ read (after_start S ts s (handed_in S ts)).tangents e

  after_none : After [] (handed_in S ts)
  unfolding total count
  after_none = record {
    looked = refl;
    turned = refl;
    places = λ e. refl;
    is_whole = whole;
    weights = λ e. refl;
    kept = λ e h. refl;
    value = λ s e h. absurd (omega arith);
  }

  module _ (s : ℕ) (l : List ℕ) (st : State S) (ok : Listed (s ∷ l)) (a : After l st) where
    s_here : s ∈ (s ∷ l)
    unfolding count
    s_here = omega (arith, delta_equal s s refl)

    s_new : count s l ≡ 0
    unfolding count
    s_new = omega (arith, ok.once s, delta_equal s s refl)

    s_below : s < n
    s_below = ok.below s s_here

    s_fixed : fixed s ≡ true
    s_fixed = ok.flag s s_here

    later : (r : ℕ) → r ∈ l → r ∈ (s ∷ l)
    unfolding count
    later r h = omega arith

    -- a start taken before turned nothing that the new one steps onto
    clash : (r e : ℕ) → r ∈ l → e ∈ turns_of S ts r → e ∈ looks_of S ts s → ⊥
    clash r e hr he h =
        let q : r ≡ s = looks_apart r s e (ok.below r (later r hr)) s_below (ok.flag r (later r hr)) s_fixed (le_trans he (turns_looks S ts r e)) h in
        let z : s ∈ l = rw q at hr in
        omega (arith, s_new)

    as_handed_in : (e : ℕ) → ((r : ℕ) → r ∈ l → e ∈ turns_of S ts r → ⊥) → read st.tangents e ≡ read ts e
    as_handed_in e h = go (zero_or_more (total l (λ r. count e (turns_of S ts r))))
      where
        go : (total l (λ r. count e (turns_of S ts r)) ≡ 0) ⊎ (1 ≤ total l (λ r. count e (turns_of S ts r))) → read st.tangents e ≡ read ts e
        go (inl z) = a.kept e z
        go (inr p) = let w = total_some l (λ r. count e (turns_of S ts r)) p in absurd (h w.0 w.1 w.2)

    -- so its walks read no tangent that another start's walks wrote
    untouched : Untouched S ts s st
    untouched = record {
      start_same = as_handed_in s (λ r hr he. let q : s ≡ r = turns_fixed S ts r s he s_fixed in let z : s ∈ l = rw (← q) at hr in omega (arith, s_new));
      looks_same = λ e h. as_handed_in e (λ r hr he. clash r e hr he h);
    }

    marks : SameMarks S ts st.tangents
    marks e = ap is_mark (a.weights e)

    does : StartDoes L ts s s_below s_fixed st (spread_from S s st)
    does = start_does L ts s s_below s_fixed whole st a.is_whole marks untouched

    by_start : {r : ℕ} → Dec (r ≡ s) → (e : ℕ) → r ∈ (s ∷ l) → e ∈ turns_of S ts r
        → read (spread_from S s st).tangents e ≡ read (after_start S ts r (handed_in S ts)).tangents e
    unfolding count
    by_start {r} (yes q) e hr he = rw q (does.value e (rw q at he))
    by_start {r} (no q) e hr he = go (zero_or_more (count e (turns_of S ts s)))
      where
        hr' : r ∈ l
        hr' = omega (arith, delta_other r s q)

        go : (count e (turns_of S ts s) ≡ 0) ⊎ (e ∈ turns_of S ts s) → read (spread_from S s st).tangents e ≡ read (after_start S ts r (handed_in S ts)).tangents e
        go (inl z) = does.turning.kept e z ∙ a.value r e hr' he
        go (inr p) = absurd (clash r e hr' he (le_trans p (turns_looks S ts s e)))

    after_one : After (s ∷ l) (spread_from S s st)
    unfolding total count
    after_one = record {
      looked = omega (arith, does.looked, a.looked);
      turned = omega (arith, does.turning.turned, a.turned);
      places = λ e. omega (arith, does.turning.places e, a.places e);
      is_whole = does.whole;
      weights = λ e. does.turning.weights e ∙ a.weights e;
      kept = λ e h. does.turning.kept e (omega arith) ∙ a.kept e (omega arith);
      value = λ r e hr he. by_start (ℕ_discrete r s) e hr he;
    }

  listed_head : (s : ℕ) (hs l : List ℕ) → Listed (reverse_aux hs (s ∷ l)) → Listed (s ∷ l)
  listed_head s hs l ok = record {
    below = λ r h. ok.below r (more r h);
    flag = λ r h. ok.flag r (more r h);
    once = λ r. omega (arith, ok.once r, count_reverse r hs (s ∷ l));
  }
    where
      more : (r : ℕ) → r ∈ (s ∷ l) → r ∈ reverse_aux hs (s ∷ l)
      more r h = omega (arith, count_reverse r hs (s ∷ l))

  after_all : (hs l : List ℕ) (st : State S) → Listed (reverse_aux hs l) → After l st → After (reverse_aux hs l) (spread_on S hs st)
  unfolding spread_on
  after_all [] l st ok a = a
  after_all (s ∷ hs) l st ok a = after_all hs (s ∷ l) (spread_from S s st) ok (after_one s l st (listed_head s hs l ok) a)

  -- ---- the unit's own pass, halfedge by halfedge

  -- it has come to the halfedge i, with the state st
  pub record PassAt (i : ℕ) (st : State S) : Type 0 where
    pub taken : List ℕ
    pub listed : Listed taken
    pub earlier : Below i taken
    pub after : After taken st
    pub left : PassLeft S ts i st

  pub pass_begin : PassAt 0 (handed_in S ts)
  unfolding count
  pass_begin = record {
    taken = [];
    listed = record { below = λ s h. absurd (omega arith); flag = λ s h. absurd (omega arith); once = λ s. omega arith };
    earlier = λ s h. absurd (omega arith);
    after = after_none;
    left = left_all S ts;
  }

  module _ {i : ℕ} {st : State S} (w : PassAt i st) (b : i < n) where
    more : fixed i ≡ true → Listed (i ∷ w.taken)
    unfolding count
    more f = record {
      below = λ s h. at s (ℕ_discrete s i) h (λ q. rw q b) (w.listed.below s);
      flag = λ s h. at s (ℕ_discrete s i) h (λ q. rw q f) (w.listed.flag s);
      once = λ s. go s (ℕ_discrete s i) (zero_or_more (count s w.taken));
    }
      where
        at : {P : Type 0} (s : ℕ) → Dec (s ≡ i) → s ∈ (i ∷ w.taken) → (s ≡ i → P) → (s ∈ w.taken → P) → P
        at s (yes q) h here there = here q
        at s (no q) h here there = there (omega (arith, delta_other s i q))

        go : (s : ℕ) → Dec (s ≡ i) → (count s w.taken ≡ 0) ⊎ (s ∈ w.taken) → count s (i ∷ w.taken) ≤ 1
        go s (no q) z = omega (arith, delta_other s i q, w.listed.once s)
        go s (yes q) (inl z) = omega (arith, delta_equal s i q)
        go s (yes q) (inr p) = absurd (omega (arith, w.earlier s p))

    pub pass_next : PassAt (suc i) (spread_at S i st)
    unfolding count
    pass_next = go (fixed i) refl
      where
        go : (c : Bool) → fixed i ≡ c → PassAt (suc i) (spread_at S i st)
        go true f = record {
          taken = i ∷ w.taken;
          listed = more f;
          earlier = λ s h. at s (ℕ_discrete s i) h;
          after = rw (at_fixed S i st f) (after_one i w.taken st (more f) w.after);
          left = left_next S ts i st b w.left;
        }
          where
            at : (s : ℕ) → Dec (s ≡ i) → s ∈ (i ∷ w.taken) → s < suc i
            at s (yes q) h = omega arith
            at s (no q) h = omega (arith, w.earlier s (omega (arith, delta_other s i q)))
        go false f = record {
          taken = w.taken;
          listed = w.listed;
          earlier = λ s h. omega (arith, w.earlier s h);
          after = rw (at_other S i st f) w.after;
          left = left_next S ts i st b w.left;
        }

    -- what a start does to the counts and the places, it does to them on the tangents handed in
    pub pass_apart : SameCounts S (spread_at S i st) (spread_at S i (on_tangents S ts st))
    pass_apart = go (fixed i) refl
      where
        go : (c : Bool) → fixed i ≡ c → SameCounts S (spread_at S i st) (spread_at S i (on_tangents S ts st))
        go true f =
            rw (at_fixed S i st f, at_fixed S i (on_tangents S ts st) f)
            (from_same L ts i b f whole st w.after.is_whole (marks i w.taken st (more f) w.after) (untouched i w.taken st (more f) w.after))
        go false f = rw (at_other S i st f, at_other S i (on_tangents S ts st) f) record { looked = refl; turned = refl; places = refl }

  pub pass_end : {i : ℕ} {st : State S} → PassAt i st → n ≤ i → st ≡ pass S ts
  pass_end {i} {st} w l = left_none S ts i st l w.left

  -- ---- what a list that names all fixed halfedges comes to

  module _ (l : List ℕ) (names : NamesFixed S l) where
    listed : Listed l
    listed = record {
      below = λ s h. (names.only s h).0;
      flag = λ s h. (names.only s h).1;
      once = λ s. go s (zero_or_more (count s l));
    }
      where
        go : (s : ℕ) → (count s l ≡ 0) ⊎ (s ∈ l) → count s l ≤ 1
        go s (inl z) = omega arith
        go s (inr p) = let w = names.only s p in omega (arith, names.each s w.0 w.1)

    -- how many starts step onto e
    looks_at : ℕ → ℕ
    looks_at e = total l (λ s. count e (looks_of S ts s))

    looks_one : (e : ℕ) → 1 ≤ looks_at e → looks_at e ≡ 1
    unfolding looks_at
    looks_one e h =
        let w = total_some l (λ s. count e (looks_of S ts s)) h in go w.0 w.1 w.2
      where
        go : (s : ℕ) → s ∈ l → e ∈ looks_of S ts s → total l (λ s. count e (looks_of S ts s)) ≡ 1
        go s hs he =
            total_count n l (λ s. count e (looks_of S ts s)) listed.below
            ∙ sum_one n (λ r. count r l * count e (looks_of S ts r)) s (listed.below s hs) others
            ∙ rw (le_antisymm (listed.once s) hs, one) refl
          where
            one : count e (looks_of S ts s) ≡ 1
            one = le_antisymm (looks_once L ts s (listed.below s hs) (listed.flag s hs) e) he

            others : (r : ℕ) → r < n → r ≢ s → count r l * count e (looks_of S ts r) ≡ 0
            others r lr q = by_cases (zero_or_more (count r l)) (zero_or_more (count e (looks_of S ts r)))
              where
                by_cases : (count r l ≡ 0) ⊎ (r ∈ l) → (count e (looks_of S ts r) ≡ 0) ⊎ (e ∈ looks_of S ts r) → count r l * count e (looks_of S ts r) ≡ 0
                by_cases (inl z) c = rw z (zero-mul (count e (looks_of S ts r)))
                by_cases (inr p) (inl z) = rw z (mul-zero (count r l))
                by_cases (inr p) (inr o) = absurd (q (looks_apart r s e lr (listed.below s hs) (listed.flag r p) (listed.flag s hs) o he))

    looks_at_most : (e : ℕ) → looks_at e ≤ 1
    looks_at_most e = go (zero_or_more (looks_at e))
      where
        go : (looks_at e ≡ 0) ⊎ (1 ≤ looks_at e) → looks_at e ≤ 1
        go (inl z) = omega arith
        go (inr p) = omega (arith, looks_one e p)

    -- the halfedges stepped onto are those of the touched rounds
    looks_touched : (e : ℕ) → 1 ≤ looks_at e → Touched S ts e
    unfolding looks_at
    looks_touched e h =
        let w = total_some l (λ s. count e (looks_of S ts s)) h in
        let s : ℕ = w.0 in
        let ls : s < n = listed.below s w.1 in
        let fs : fixed s ≡ true = listed.flag s w.1 in
        let m = looks_unmarked S ts s e w.2 in
        let i = path_index permutes (is_stop S ts) s ls (rw m fs) e (rw (looks_of_lem S ts s m) at w.2) in
        (s, reaches_back permutes s ls e (i.0, i.3), (fs, m))

    touched_looks : (e : ℕ) → e < n → Touched S ts e → 1 ≤ looks_at e
    unfolding looks_at
    touched_looks e le (d, r, c) =
        let ld : d < n = subst (λ (x : ℕ). x < n) r.1 (iter_below permutes r.0 e le) in
        let o = stop_before permutes (is_stop S ts) d ld (rw c.1 c.0) e (reaches_back permutes e le d r) in
        let s : ℕ = o.0 in
        let p = stop_is S ts s o.2 in
        let m : e ∈ looks_of S ts s = rw (looks_of_lem S ts s p.1) o.3 in
        le_trans m (total_has l (λ r. count e (looks_of S ts r)) s (omega (arith, names.each s o.1 p.0)))

    module _ (st : State S) (a : After l st) where
      looked_sum : st.looked ≡ sum n looks_at
      unfolding looks_at
      looked_sum = a.looked ∙ total_length n l (looks_of S ts) (λ s h. looks_below L ts s (listed.below s h) (listed.flag s h))

      turned_sum : st.turned ≡ sum n (λ e. count e st.places)
      turned_sum =
          a.turned ∙ total_length n l (turns_of S ts) (λ s h. turns_below L ts s (listed.below s h) (listed.flag s h))
          ∙ sum_ext n (λ e. total l (λ s. count e (turns_of S ts s))) (λ e. count e st.places) (λ e b. sym (a.places e))

      places_looks : (e : ℕ) → count e st.places ≤ looks_at e
      unfolding looks_at
      places_looks e = rw (a.places e) (total_le l (λ s. count e (turns_of S ts s)) (λ s. count e (looks_of S ts s)) (λ s h. turns_looks S ts s e))

      places_once : (e : ℕ) → count e st.places ≤ 1
      places_once e = le_trans (places_looks e) (looks_at_most e)

      looked_exactly : Exactly (Touched S ts) n st.looked
      looked_exactly = subst (Exactly (Touched S ts) n) (sym looked_sum) (exactly (Touched S ts) n looks_at (λ e le. go e le (zero_or_more (looks_at e))))
        where
          go : (e : ℕ) → e < n → (looks_at e ≡ 0) ⊎ (1 ≤ looks_at e) → ((looks_at e ≡ 1) × Touched S ts e) ⊎ ((looks_at e ≡ 0) × ¬ Touched S ts e)
          go e le (inl z) = inr (z, λ h. let m = touched_looks e le h in omega arith)
          go e le (inr p) = inl (looks_one e p, looks_touched e p)

      turned_exactly : Exactly (WasTurned S st) n st.turned
      turned_exactly =
          subst (Exactly (WasTurned S st) n) (sym turned_sum)
          (exactly (WasTurned S st) n (λ e. count e st.places) (λ e le. go e (zero_or_more (count e st.places))))
        where
          go : (e : ℕ) → (count e st.places ≡ 0) ⊎ (e ∈ st.places) → ((count e st.places ≡ 1) × WasTurned S st e) ⊎ ((count e st.places ≡ 0) × ¬ WasTurned S st e)
          go e (inl z) = inr (z, λ h. omega arith)
          go e (inr p) = inl (le_antisymm (places_once e) p, p)

      turned_looked : st.turned ≤ st.looked
      turned_looked = omega (arith, looked_sum, turned_sum, sum_le n (λ e. count e st.places) looks_at (λ e b. places_looks e))

      fixed_sole : (e : ℕ) → WasTurned S st e → fixed e ≡ true → Sole S ts e
      fixed_sole e h f =
          let w = total_some l (λ s. count e (turns_of S ts s)) (rw (a.places e) at h) in
          go w.0 w.1 w.2 (turns_fixed S ts w.0 e w.2 f)
        where
          go : (s : ℕ) → s ∈ l → e ∈ turns_of S ts s → e ≡ s → Sole S ts e
          go s hs he q =
              let m : e ∈ looks_of S ts e = rw (← q) at (le_trans he (turns_looks S ts s e)) in
              let u = looks_unmarked S ts e e m in
              let le : e < n = rw (← q) at (listed.below s hs) in
              ((f, u), λ d r c. sole_stop permutes (is_stop S ts) e le (rw u f) (rw (looks_of_lem S ts e u) at m) d r (rw c.1 c.0))

      others_kept : (e : ℕ) → ¬ WasTurned S st e → read st.tangents e ≡ read ts e
      others_kept e h = go (zero_or_more (count e st.places))
        where
          go : (count e st.places ≡ 0) ⊎ (e ∈ st.places) → read st.tangents e ≡ read ts e
          go (inl z) = a.kept e (sym (a.places e) ∙ z)
          go (inr p) = absurd (h p)

  -- ---- two such lists come to the same

  module _ (l m : List ℕ) (nl : NamesFixed S l) (nm : NamesFixed S m) (st sv : State S) (a : After l st) (b : After m sv) where
    same_count : (s : ℕ) → s < n → count s l ≡ count s m
    same_count s ls = go (fixed s) refl
      where
        none : (x : List ℕ) → NamesFixed S x → fixed s ≡ false → count s x ≡ 0
        none x nx e = by (zero_or_more (count s x))
          where
            by : (count s x ≡ 0) ⊎ (s ∈ x) → count s x ≡ 0
            by (inl z) = z
            by (inr p) = absurd (true≢false (sym (nx.only s p).1 ∙ e))

        go : (f : Bool) → fixed s ≡ f → count s l ≡ count s m
        go true e = nl.each s ls e ∙ sym (nm.each s ls e)
        go false e = none l nl e ∙ sym (none m nm e)

    same_total : (f : ℕ → ℕ) → total l f ≡ total m f
    same_total f =
        total_count n l f (λ s h. (nl.only s h).0)
        ∙ sum_ext n (λ s. count s l * f s) (λ s. count s m * f s) (λ s b. ap (λ (k : ℕ). k * f s) (same_count s b))
        ∙ sym (total_count n m f (λ s h. (nm.only s h).0))

    same_looked : st.looked ≡ sv.looked
    same_looked = a.looked ∙ same_total (λ s. length (looks_of S ts s)) ∙ sym b.looked

    same_turned : st.turned ≡ sv.turned
    same_turned = a.turned ∙ same_total (λ s. length (turns_of S ts s)) ∙ sym b.turned

    same_places : (e : ℕ) → count e st.places ≡ count e sv.places
    same_places e = a.places e ∙ same_total (λ s. count e (turns_of S ts s)) ∙ sym (b.places e)

    same_tangents : st.tangents ≡ sv.tangents
    same_tangents = L.same_tangents st.tangents sv.tangents a.is_whole b.is_whole (λ e le. by e (zero_or_more (total l (λ s. count e (turns_of S ts s)))))
      where
        by : (e : ℕ) → (total l (λ s. count e (turns_of S ts s)) ≡ 0) ⊎ (1 ≤ total l (λ s. count e (turns_of S ts s))) → read st.tangents e ≡ read sv.tangents e
        by e (inl z) = a.kept e z ∙ sym (b.kept e (sym (same_total (λ s. count e (turns_of S ts s))) ∙ z))
        by e (inr p) =
            let w = total_some l (λ s. count e (turns_of S ts s)) p in
            let s_in : w.0 ∈ m = rw (same_count w.0 (nl.only w.0 w.1).0) at w.1 in
            a.value w.0 e w.1 w.2 ∙ sym (b.value w.0 e s_in w.2)

  -- ---- from the list of starts to the list taken, the last one first

  taken : (starts : List ℕ) → NamesFixed S starts → NamesFixed S (reverse_aux starts [])
  unfolding count
  taken starts nm = record {
    each = λ s l f. omega (arith, nm.each s l f, count_reverse s starts []);
    only = λ s h. nm.only s (omega (arith, count_reverse s starts []));
  }

  after_spread : (starts : List ℕ) → NamesFixed S starts → After (reverse_aux starts []) (spread S starts ts)
  unfolding spread
  after_spread starts nm = after_all starts [] (handed_in S ts) (listed (reverse_aux starts []) (taken starts nm)) after_none

  -- ---- THE THEOREM

  pub order_free : (starts : List ℕ) → NamesFixed S starts → OrderFree S starts ts (pass S ts).tangents (pass S ts).looked (pass S ts).turned
  unfolding pass
  order_free starts nm = record {
    tangents_same = same_tangents l l₀ f f₀ st st₀ a a₀;
    looked_same = same_looked l l₀ f f₀ st st₀ a a₀;
    turned_same = same_turned l l₀ f f₀ st st₀ a a₀;
    places_same = same_places l l₀ f f₀ st st₀ a a₀;
    looked_is = looked_exactly l₀ f₀ st₀ a₀;
    turned_is = rw (← same_turned l l₀ f f₀ st st₀ a a₀) (turned_exactly l f st a);
    turned_at_most = turned_looked l₀ f₀ st₀ a₀;
    turned_once = places_once l f st a;
    fixed_sole = fixed_sole l f st a;
    weights_kept = a₀.weights;
    others_kept = λ e h. ap (λ (u : S.Tangents). read u e) (sym (same_tangents l l₀ f f₀ st st₀ a a₀)) ∙ others_kept l f st a e h;
  }
    where
      l : List ℕ
      l = reverse_aux starts []

      f : NamesFixed S l
      f = taken starts nm

      st : State S
      st = spread S starts ts

      a : After l st
      a = after_spread starts nm

      l₀ : List ℕ
      l₀ = reverse_aux (fixed_from S n 0) []

      f₀ : NamesFixed S l₀
      f₀ = taken (fixed_from S n 0) (own S)

      st₀ : State S
      st₀ = pass S ts

      a₀ : After l₀ st₀
      a₀ = after_spread (fixed_from S n 0) (own S)
