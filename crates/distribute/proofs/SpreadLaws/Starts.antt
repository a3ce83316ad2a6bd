-- One fixed start, on tangents that the starts before it left: it steps onto the halfedges `looks_of` and turns `turns_of`, both worked out from the tangents
-- handed in.
use mathlib.Core.Path.{◌≡◌, refl, sym, ap, ◌∙◌}
use mathlib.Core.Bool.{Bool, true, false, cond, true≢false}
use mathlib.Core.List.{List, []}
use Prim.Native.Nat.{ℕ, suc, ◌+◌, ◌≤◌, ◌<◌}
use native.Mathlib.Nat.{le_trans}
use native.Mathlib.Omega.{arith}
use lib.ListN.{length}
use borrow.Author.Tests.{eqb-true}
use Rattle.cycles.specs.Count.{count, ◌∈◌}
use Rattle.cycles.specs.Walk.{path, walk_end}
use Rattle.cycles.proofs.Count.{Below}
use Rattle.cycles.proofs.Orbits.{path_below, path_once}
use Rattle.distribute.specs.Spread.Steps.{Steps, Lawful}
use Rattle.distribute.specs.Spread.Spread.{Found, State, marked, second_walk, spread_from, handed_in}
use Rattle.distribute.proofs.SpreadLaws.Branches.{found_from, with_looked, walks_first, walks_both, from_marked, from_unmarked}
use Rattle.distribute.proofs.SpreadLaws.Sublists.{Sublist, none, sublist_count, sublist_trans, select_passes}
use Rattle.distribute.proofs.SpreadLaws.Turns.{SameMarks, SameCounts, on_tangents, turn_all, all_counts, Turning, all_whole, all_turning, all_same}
use Rattle.distribute.proofs.SpreadLaws.Places.{is_stop, is_turned, look_places, gather_places, turn_places, gathers_looks, turns_gathers}
use Rattle.distribute.proofs.SpreadLaws.Walks.{gather_all, gather_same, found_by, first_is, second_is}

module _ (S : Steps) (ts : S.Tangents) where
  open S use {Gathered, Plan, n, step, fixed, read, begin, turns_none, plan}

  -- what the first walk gathers, and the plan that comes of it
  abbrev pub gathered_of : ℕ → Gathered
  gathered_of s = gather_all S ts s (gather_places S ts (suc n) s) (begin s (read ts s))

  abbrev pub plan_of : ℕ → Plan
  plan_of s = plan s (walk_end step (is_stop S ts) (suc n) s) (gathered_of s)

  -- the halfedges that the first walk steps onto, and those that the second one turns
  abbrev pub looks_of : ℕ → List ℕ
  looks_of s = cond (marked S ts s) [] (look_places S ts (suc n) s)

  abbrev pub turns_of : ℕ → List ℕ
  turns_of s = cond (marked S ts s) [] (cond (turns_none (gathered_of s)) [] (turn_places S ts s (suc n) s))

  -- the state that the start makes of st
  abbrev pub after_start : ℕ → State S → State S
  after_start s st = turn_all S (turns_of s) (plan_of s) (with_looked S st (length (looks_of s) + st.looked))

  -- the start's tangent and those that it steps onto are as handed in
  pub record Untouched (s : ℕ) (st : State S) : Type 0 where
    pub start_same : read st.tangents s ≡ read ts s
    pub looks_same : (e : ℕ) → e ∈ looks_of s → read st.tangents e ≡ read ts e

  pub looks_of_lem : (s : ℕ) → marked S ts s ≡ false → looks_of s ≡ look_places S ts (suc n) s
  looks_of_lem s m = rw m

  -- a start that steps onto something is not marked
  pub looks_unmarked : (s e : ℕ) → e ∈ looks_of s → marked S ts s ≡ false
  unfolding count
  looks_unmarked s e h = go (marked S ts s) refl
    where
      go : (b : Bool) → marked S ts s ≡ b → marked S ts s ≡ false
      go true m = absurd (let z : 1 ≤ 0 = rw m at h in omega arith)
      go false m = m

  pub turns_sublist : (s : ℕ) → Sublist (turns_of s) (looks_of s)
  turns_sublist s = go (marked S ts s) refl (turns_none (gathered_of s)) refl
    where
      go : (b : Bool) → marked S ts s ≡ b → (q : Bool) → turns_none (gathered_of s) ≡ q → Sublist (turns_of s) (looks_of s)
      go true m q qe = rw m none
      go false m true qe = rw (m, qe) none
      go false m false qe = rw (m, qe) (sublist_trans (gathers_looks S ts (suc n) s) (turns_gathers S ts s (suc n) s))

  pub turns_looks : (s e : ℕ) → count e (turns_of s) ≤ count e (looks_of s)
  turns_looks s e = sublist_count e (turns_sublist s)

  -- what is turned is fixed only if it is the start
  pub turns_fixed : (s e : ℕ) → e ∈ turns_of s → fixed e ≡ true → e ≡ s
  unfolding count
  turns_fixed s e h f = go (marked S ts s) refl (turns_none (gathered_of s)) refl
    where
      go : (b : Bool) → marked S ts s ≡ b → (q : Bool) → turns_none (gathered_of s) ≡ q → e ≡ s
      go true m q qe = absurd (let z : 1 ≤ 0 = rw m at h in omega arith)
      go false m true qe = absurd (let z : 1 ≤ 0 = rw (m, qe) at h in omega arith)
      go false m false qe = only (marked S ts e) refl (select_passes (is_turned S ts s) e (path step fixed (suc n) s) (rw (m, qe) at h))
        where
          only : (b : Bool) → marked S ts e ≡ b → is_turned S ts s e ≡ true → e ≡ s
          only true x t = absurd (true≢false (sym t ∙ rw x))
          only false x t = eqb-true e s (rw (x, f) at t)

module _ {S : Steps} (L : Lawful S) (ts : S.Tangents) (s : ℕ) (s_below : s < S.n) (s_fixed : S.fixed s ≡ true) where
  open S use {n, read, begin, turns_none, plan}
  open L use {permutes, Whole}

  found : (st : State S) → SameMarks S ts st.tangents → Untouched S ts s st → marked S ts s ≡ false
      → found_from S s st ≡ found_by S ts (suc n) ts s s st.looked (begin s (read ts s))
  found st same un m =
      first_is S ts st.tangents same s m (suc n) s st.looked (begin s (read st.tangents s))
      ∙ rw (un.start_same, gather_same S st.tangents ts s (gather_places S ts (suc n) s) (begin s (read ts s)) reads) refl
    where
      reads : (e : ℕ) → e ∈ gather_places S ts (suc n) s → read st.tangents e ≡ read ts e
      reads e h = un.looks_same e (rw m (le_trans h (sublist_count e (gathers_looks S ts (suc n) s))))

  -- THE CLOSED FORM of one start
  pub from_is : (st : State S) → Whole st.tangents → SameMarks S ts st.tangents → Untouched S ts s st → spread_from S s st ≡ after_start S ts s st
  unfolding turn_all
  from_is st w same un = go (marked S ts s) refl (turns_none (gathered_of S ts s)) refl
    where
      go : (b : Bool) → marked S ts s ≡ b → (q : Bool) → turns_none (gathered_of S ts s) ≡ q → spread_from S s st ≡ after_start S ts s st
      go true m q qe = from_marked S s st (same s ∙ m) ∙ (let z : 0 + st.looked ≡ st.looked = omega arith in rw (m, z) refl)
      go false m true qe =
          let f = found st same un m in
          from_unmarked S s st (same s ∙ m) ∙ walks_first S s st (ap (λ (r : Found S). turns_none r.gathered) f ∙ qe)
          ∙ rw (m, qe) (ap (λ (r : Found S). with_looked S st r.looked) f)
      go false m false qe =
          let f = found st same un m in
          from_unmarked S s st (same s ∙ m) ∙ walks_both S s st (ap (λ (r : Found S). turns_none r.gathered) f ∙ qe)
          ∙ ap (λ (r : Found S). second_walk S (suc n) s s (plan s r.last r.gathered) (with_looked S st r.looked)) f
          ∙ second_is S ts L s s_fixed (suc n) s (plan_of S ts s) (with_looked S st (length (look_places S ts (suc n) s) + st.looked)) s_below w same
          ∙ rw (m, qe) refl

  -- so the counts and places do not depend on what other starts wrote: they are those of the start on the tangents handed in
  pub from_same : Whole ts → (st : State S) → Whole st.tangents → SameMarks S ts st.tangents → Untouched S ts s st
      → SameCounts S (spread_from S s st) (spread_from S s (on_tangents S ts st))
  from_same v st w same un =
      rw (from_is st w same un, from_is (on_tangents S ts st) v (λ e. refl) (record { start_same = refl; looks_same = λ e h. refl }))
      (all_counts S (turns_of S ts s) (plan_of S ts s) (with_looked S st looks) (with_looked S (on_tangents S ts st) looks) (record { looked = refl; turned = refl; places = refl }))
    where
      looks : ℕ
      looks = length (looks_of S ts s) + st.looked

  pub looks_below : Below n (looks_of S ts s)
  looks_below e h =
      let m = looks_unmarked S ts s e h in
      path_below permutes (is_stop S ts) s s_below (rw m s_fixed) (suc n) e (rw (looks_of_lem S ts s m) at h)

  pub looks_once : (e : ℕ) → count e (looks_of S ts s) ≤ 1
  unfolding count
  looks_once e = go (marked S ts s) refl
    where
      go : (b : Bool) → marked S ts s ≡ b → count e (looks_of S ts s) ≤ 1
      go true m = rw m (omega arith)
      go false m = rw m (path_once permutes (is_stop S ts) s s_below (rw m s_fixed) (suc n) e)

  pub turns_below : Below n (turns_of S ts s)
  turns_below e h = looks_below e (le_trans h (turns_looks S ts s e))

  -- what the start does to a state
  pub record StartDoes (st after : State S) : Type 0 where
    pub looked : after.looked ≡ length (looks_of S ts s) + st.looked
    pub turning : Turning S (turns_of S ts s) (with_looked S st (length (looks_of S ts s) + st.looked)) after
    pub whole : Whole after.tangents
    pub value : (e : ℕ) → e ∈ turns_of S ts s → read after.tangents e ≡ read (after_start S ts s (handed_in S ts)).tangents e

  pub start_does : Whole ts → (st : State S) → Whole st.tangents → SameMarks S ts st.tangents → Untouched S ts s st → StartDoes st (spread_from S s st)
  start_does v st w same un = rw (from_is st w same un) record {
    looked = t.looked;
    turning = t;
    whole = all_whole L (turns_of S ts s) (plan_of S ts s) now w;
    value = λ e h. all_same L (turns_of S ts s) (plan_of S ts s) now fresh turns_below w v reads e (reads e h);
  }
    where
      now : State S
      now = with_looked S st (length (looks_of S ts s) + st.looked)

      fresh : State S
      fresh = with_looked S (handed_in S ts) (length (looks_of S ts s) + 0)

      t : Turning S (turns_of S ts s) now (after_start S ts s st)
      t = all_turning L (turns_of S ts s) (plan_of S ts s) now turns_below w

      reads : (e : ℕ) → e ∈ turns_of S ts s → read st.tangents e ≡ read ts e
      reads e h = un.looks_same e (le_trans h (turns_looks S ts s e))
