-- Spreading as a public call: `distribute_tangents` of src/smoothing_tangents.rs, with its two counts and its questions. H are the halfedges, P the positions, N the point normals, X the flags, T the tangents, C and D the scratch lists, n and p the counts of halfedges and points.
use Rattle.std.specs.Prelude.{ℕ, ◌≡◌, List, Bool, ◌&&◌, length, replicate, Float, Result, Ok}
use Rattle.float.specs.Ops.{zero}
use Rattle.mesh.specs.Mesh.{Halfedges}
use Rattle.questions.specs.Questions.{has_length, points_fit}
use Rattle.questions.specs.Check.{Checked, number_of, place_of, value_or, check_mesh, check_flags, answer_of, when_accepted}
use Rattle.questions.specs.declared.Refusal.{Refusal}
use Rattle.distribute.specs.Spread.Steps.{Steps}
use Rattle.distribute.specs.Spread.Spread.{State, pass}
use Rattle.distribute.specs.Spread.Order.{NamesFixed, OrderFree}
use Rattle.distribute.specs.Steps.FloatSteps.{float_steps}
use Rattle.distribute.specs.declared.walks.Counts.{Counts}

-- ---- the values of an answer

-- the two counts, or the refusal
abbrev pub Spreading : Type 0
Spreading = Result Counts Refusal

-- looked and turned; 0 for a refusal, which looks at nothing
abbrev pub looked_of : Spreading → ℕ
looked_of = value_or 0 (λ (counts : Counts). counts.looked)

abbrev pub turned_of : Spreading → ℕ
turned_of = value_or 0 (λ (counts : Counts). counts.turned)

-- ---- the questions

-- question 2 of the lists that spreading and its preview read or turn
abbrev pub lists_fit : Halfedges → List Float → List Float → List ℕ → List Float → ℕ → ℕ → Bool
lists_fit H P N X T n p =
    points_fit H.numbers (length P) (length N) n p && has_length (length X) n 1 && has_length (length T) n 4

-- questions 1 to 7 and 11; `others` says whether question 2 passes the lists that only the one of them is lent
abbrev pub check_with : Halfedges → List Float → List Float → List ℕ → List Float → Bool → ℕ → ℕ → Checked
check_with H P N X T others n p = check_flags (check_mesh H n p (lists_fit H P N X T n p && others)) X n

-- of spreading, with its scratch lists
unfoldable pub check_lists : Halfedges → List Float → List Float → List ℕ → List Float → List Float → List Float → ℕ → ℕ → Checked
check_lists H P N X T C D n p = check_with H P N X T (has_length (length C) n 1 && has_length (length D) n 1) n p

-- ---- the call

-- the tangents and counts of an accepted call: the unit's own pass over the tangents T, with the float steps
abbrev pub spread_tangents : (H : Halfedges) (P N : List Float) (X : List ℕ) (T : List Float) (n : ℕ) → State (float_steps H P N X n)
spread_tangents H P N X T n = pass (float_steps H P N X n) T

-- These are the tangents and counts of a state. Only contracts inside a call name it, as that of `spread_tangents`.
pub record Reports (S : Steps) (st : State S) (ts : S.Tangents) (k : Counts) : Type 0 where
  pub tangents_are : ts ≡ st.tangents
  pub looked_is : k.looked ≡ st.looked
  pub turned_is : k.turned ≡ st.turned

-- the two counts
abbrev pub counts_of : ℕ → ℕ → Counts
counts_of looked turned = record { looked = looked; turned = turned }

-- the answer, for every input
abbrev pub distribute_tangents : Halfedges → List Float → List Float → List ℕ → List Float → List Float → List Float → ℕ → ℕ → Spreading
distribute_tangents H P N X T C D n p =
    answer_of (check_lists H P N X T C D n p) (counts_of (spread_tangents H P N X T n).looked (spread_tangents H P N X T n).turned)

-- the tangents after the call, for every input: as lent when it is refused
abbrev pub tangents_after : Halfedges → List Float → List Float → List ℕ → List Float → List Float → List Float → ℕ → ℕ → List Float
tangents_after H P N X T C D n p = when_accepted (check_lists H P N X T C D n p) (spread_tangents H P N X T n).tangents T

-- a scratch list after the call: zeros when it is accepted, as lent when it is refused
abbrev pub scratch_after : Checked → List Float → ℕ → List Float
scratch_after checked lent n = when_accepted checked (replicate n zero) lent

-- The order rule of an accepted call that found the tangents T and left them as `after`, and answered r: for every list of starts that names each fixed halfedge once.
abbrev pub AnyOrder : Halfedges → List Float → List Float → List ℕ → List Float → List Float → List Float → ℕ → ℕ → List Float → Spreading → Type 0
AnyOrder H P N X T C D n p after r =
    check_lists H P N X T C D n p ≡ Ok tt → (starts : List ℕ) → NamesFixed (float_steps H P N X n) starts
    → OrderFree (float_steps H P N X n) starts T after (looked_of r) (turned_of r)

-- what the definitions give of an answer `r`, after the answer `checked` of the questions, where spreading comes to the state `st`: number, place, looked and turned
pub record Values (checked : Checked) (S : Steps) (st : State S) (r : Spreading) : Type 0 where
  pub number : number_of r ≡ number_of checked
  pub place : place_of r ≡ place_of checked
  pub looked : looked_of r ≡ when_accepted checked st.looked 0
  pub turned : turned_of r ≡ when_accepted checked st.turned 0
