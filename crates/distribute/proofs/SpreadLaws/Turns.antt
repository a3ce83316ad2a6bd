-- A list of tangents turned one after the other: what changes, what stays, and what it depends on.
use mathlib.Core.Path.{◌≡◌, refl, ap, ◌∙◌}
use mathlib.Core.List.{List, [], ◌∷◌}
use Prim.Native.Nat.{ℕ, suc, ◌+◌, ◌<◌}
use native.Mathlib.Decide.{ℕ_discrete}
use native.Mathlib.Omega.{arith}
use lib.ListN.{length}
use Rattle.cycles.specs.Count.{count, ◌∈◌}
use Rattle.cycles.proofs.Count.{delta_equal, Below}
use Rattle.distribute.specs.Spread.Steps.{Steps, Lawful}
use Rattle.distribute.specs.Spread.Spread.{State, marked, turn_at}

-- the tangents u have the marks of ts
abbrev pub SameMarks : (S : Steps) → S.Tangents → S.Tangents → Type 0
SameMarks S ts u = (e : ℕ) → marked S u e ≡ marked S ts e

-- two states with the same counts and places, whatever their tangents
pub record SameCounts (S : Steps) (st sv : State S) : Type 0 where
  pub looked : st.looked ≡ sv.looked
  pub turned : st.turned ≡ sv.turned
  pub places : st.places ≡ sv.places

-- the state with other tangents
abbrev pub on_tangents : (S : Steps) → S.Tangents → State S → State S
on_tangents S ts st = record { tangents = ts; looked = st.looked; turned = st.turned; places = st.places }

-- the halfedges of a list turned in order, each at the next angle
unfoldable pub turn_all : (S : Steps) → List ℕ → S.Plan → State S → State S
turn_all S [] p st = st
turn_all S (c ∷ cs) p st = turn_all S cs (S.next p) (turn_at S c p st)

-- what the halfedges `cs`, turned, make of the state st
pub record Turning (S : Steps) (cs : List ℕ) (st after : State S) : Type 0 where
  pub looked : after.looked ≡ st.looked
  pub turned : after.turned ≡ st.turned + length cs
  pub places : (e : ℕ) → count e after.places ≡ count e cs + count e st.places
  pub weights : (e : ℕ) → S.weight (S.read after.tangents e) ≡ S.weight (S.read st.tangents e)
  pub kept : (e : ℕ) → count e cs ≡ 0 → S.read after.tangents e ≡ S.read st.tangents e

module _ {S : Steps} (L : Lawful S) where
  open S use {Plan, n, read, weight, is_mark, turn, next}
  open L use {turn_weight, Whole, write_whole, read_same, read_other}

  -- ---- one

  pub turn_whole : (c : ℕ) (p : Plan) (st : State S) → Whole st.tangents → Whole (turn_at S c p st).tangents
  turn_whole c p st w = write_whole st.tangents c (turn p (read st.tangents c)) w

  turn_weights : (c : ℕ) (p : Plan) (st : State S) → c < n → Whole st.tangents → (e : ℕ)
      → weight (read (turn_at S c p st).tangents e) ≡ weight (read st.tangents e)
  turn_weights c p st l w e = go (ℕ_discrete e c)
    where
      go : Dec (e ≡ c) → weight (read (turn_at S c p st).tangents e) ≡ weight (read st.tangents e)
      go (yes q) = rw q (rw (read_same st.tangents c (turn p (read st.tangents c)) w l) (turn_weight p (read st.tangents c)))
      go (no q) = rw (read_other st.tangents c (turn p (read st.tangents c)) e q)

  pub turn_marks : (ts : S.Tangents) (c : ℕ) (p : Plan) (st : State S) → c < n → Whole st.tangents → SameMarks S ts st.tangents → SameMarks S ts (turn_at S c p st).tangents
  turn_marks ts c p st l w m e = ap is_mark (turn_weights c p st l w e) ∙ m e

  -- two states that agree at c and at e still agree at e when c is turned
  turn_same : (c : ℕ) (p : Plan) (st sv : State S) → c < n → Whole st.tangents → Whole sv.tangents
      → read st.tangents c ≡ read sv.tangents c → (e : ℕ) → read st.tangents e ≡ read sv.tangents e
      → read (turn_at S c p st).tangents e ≡ read (turn_at S c p sv).tangents e
  turn_same c p st sv l w v h e q = go (ℕ_discrete e c)
    where
      go : Dec (e ≡ c) → read (turn_at S c p st).tangents e ≡ read (turn_at S c p sv).tangents e
      go (yes r) =
          rw r (rw (read_same st.tangents c (turn p (read st.tangents c)) w l, read_same sv.tangents c (turn p (read sv.tangents c)) v l) (ap (turn p) h))
      go (no r) =
          rw (read_other st.tangents c (turn p (read st.tangents c)) e r, read_other sv.tangents c (turn p (read sv.tangents c)) e r) q

  -- ---- all of a list

  below_first : (c : ℕ) (cs : List ℕ) → Below n (c ∷ cs) → c < n
  unfolding count
  below_first c cs b = b c (omega (arith, delta_equal c c refl))

  below_rest : (c : ℕ) (cs : List ℕ) → Below n (c ∷ cs) → Below n cs
  unfolding count
  below_rest c cs b e m = b e (omega arith)

  pub all_whole : (cs : List ℕ) (p : Plan) (st : State S) → Whole st.tangents → Whole (turn_all S cs p st).tangents
  unfolding turn_all
  all_whole [] p st w = w
  all_whole (c ∷ cs) p st w = all_whole cs (next p) (turn_at S c p st) (turn_whole c p st w)

  pub all_turning : (cs : List ℕ) (p : Plan) (st : State S) → Below n cs → Whole st.tangents → Turning S cs st (turn_all S cs p st)
  unfolding turn_all count
  all_turning [] p st b w = record { looked = refl; turned = omega arith; places = λ e. omega arith; weights = λ e. refl; kept = λ e h. refl }
  all_turning (c ∷ cs) p st b w =
      let t = all_turning cs (next p) (turn_at S c p st) (below_rest c cs b) (turn_whole c p st w) in
      record {
        looked = t.looked;
        turned = omega (arith, t.turned);
        places = λ e. omega (arith, t.places e);
        weights = λ e. t.weights e ∙ turn_weights c p st (below_first c cs b) w e;
        kept = λ e h. t.kept e (omega arith) ∙ read_other st.tangents c (turn p (read st.tangents c)) e (λ q. omega (arith, delta_equal e c q));
      }

  -- it reads nothing but the tangents that it turns
  pub all_same : (cs : List ℕ) (p : Plan) (st sv : State S) → Below n cs → Whole st.tangents → Whole sv.tangents
      → ((e : ℕ) → e ∈ cs → read st.tangents e ≡ read sv.tangents e)
      → (e : ℕ) → read st.tangents e ≡ read sv.tangents e → read (turn_all S cs p st).tangents e ≡ read (turn_all S cs p sv).tangents e
  unfolding turn_all count
  all_same [] p st sv b w v h e q = q
  all_same (c ∷ cs) p st sv b w v h e q =
      let at : (e : ℕ) → read st.tangents e ≡ read sv.tangents e → read (turn_at S c p st).tangents e ≡ read (turn_at S c p sv).tangents e =
      turn_same c p st sv (below_first c cs b) w v (h c (omega (arith, delta_equal c c refl))) in
      all_same cs (next p) (turn_at S c p st) (turn_at S c p sv) (below_rest c cs b) (turn_whole c p st w) (turn_whole c p sv v)
      (λ x m. at x (h x (omega arith))) e (at e q)

-- the counts and places that come of turning a list do not depend on the tangents
pub all_counts : (S : Steps) (cs : List ℕ) (p : S.Plan) (st sv : State S) → SameCounts S st sv → SameCounts S (turn_all S cs p st) (turn_all S cs p sv)
unfolding turn_all
all_counts S [] p st sv c = c
all_counts S (e ∷ cs) p st sv c =
    all_counts S cs (S.next p) (turn_at S e p st) (turn_at S e p sv)
    (record { looked = c.looked; turned = ap suc c.turned; places = ap (λ (l : List ℕ). e ∷ l) c.places })
