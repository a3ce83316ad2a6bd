-- The preview of spreading as a public call: the answer of spreading, and for each halfedge a byte that says whether spreading a copy would turn it. Letters as in crates/distribute/specs/Distribute.antt; Y is the list of bytes.
use Rattle.std.specs.Prelude.{ℕ, ◌<◌, ◌≡◌, List, ◌&&◌, length, get_or, Float, Ok}
use Rattle.mesh.specs.Mesh.{Halfedges}
use Rattle.questions.specs.Questions.{has_length}
use Rattle.questions.specs.Check.{Checked, answer_of, when_accepted}
use Rattle.distribute.specs.Spread.Steps.{Steps}
use Rattle.distribute.specs.Spread.Spread.{spread, pass}
use Rattle.distribute.specs.Spread.Order.{NamesFixed, WasTurned, OrderFree}
use Rattle.distribute.specs.Steps.FloatSteps.{float_steps}
use Rattle.distribute.specs.Distribute.{check_with, Spreading, counts_of, spread_tangents, looked_of, turned_of, distribute_tangents}
use Rattle.distribute.specs.Preview.Bytes.{turned_bytes}

-- ---- the questions

-- questions 1 to 7 and 11, with the bytes
unfoldable pub check_lists : Halfedges → List Float → List Float → List ℕ → List Float → List ℕ → ℕ → ℕ → Checked
check_lists H P N X T Y n p = check_with H P N X T (has_length (length Y) n 1) n p

-- ---- the call

-- the answer, for every input: the counts of spreading, or the refusal
abbrev pub preview_tangents : Halfedges → List Float → List Float → List ℕ → List Float → List ℕ → ℕ → ℕ → Spreading
preview_tangents H P N X T Y n p =
    answer_of (check_lists H P N X T Y n p) (counts_of (spread_tangents H P N X T n).looked (spread_tangents H P N X T n).turned)

-- the bytes after the call, for every input: as lent when it is refused
abbrev pub bytes_after : Halfedges → List Float → List Float → List ℕ → List Float → List ℕ → ℕ → ℕ → List ℕ
bytes_after H P N X T Y n p = when_accepted (check_lists H P N X T Y n p) (turned_bytes (float_steps H P N X n) (spread_tangents H P N X T n)) Y

-- the answer r is that of spreading on the same lists, with any scratch lists C and D that question 2 lets pass as it does the bytes
abbrev pub AsSpreading : Halfedges → List Float → List Float → List ℕ → List Float → List ℕ → ℕ → ℕ → Spreading → Type 0
AsSpreading H P N X T Y n p r =
    (C D : List Float) → has_length (length C) n 1 && has_length (length D) n 1 ≡ has_length (length Y) n 1 → r ≡ distribute_tangents H P N X T C D n p

-- Of the positions and the point normals only the lengths are asked: any others Q and M of these lengths have the same answer r and the same bytes Z.
abbrev pub LengthsAlone : Halfedges → List Float → List Float → List ℕ → List Float → List ℕ → ℕ → ℕ → List ℕ → Spreading → Type 0
LengthsAlone H P N X T Y n p Z r =
    (Q M : List Float) → length Q ≡ length P → length M ≡ length N → (r ≡ preview_tangents H Q M X T Y n p) × (Z ≡ bytes_after H Q M X T Y n p)

-- ---- the order rule

-- Spreading the tangents `ts` from `starts`: the order rule of the counts `looked` and `turned`, and the bytes Y are 1 exactly at the halfedges that it turns.
pub record PreviewFree (S : Steps) (starts : List ℕ) (ts : S.Tangents) (Y : List ℕ) (looked turned : ℕ) : Type 0 where
  pub order : OrderFree S starts ts (pass S ts).tangents looked turned
  pub bytes_same : Y ≡ turned_bytes S (spread S starts ts)
  pub one_at_turned : (e : ℕ) → e < S.n → WasTurned S (spread S starts ts) e → get_or Y e 0 ≡ 1
  pub zero_elsewhere : (e : ℕ) → e < S.n → ¬ WasTurned S (spread S starts ts) e → get_or Y e 1 ≡ 0

-- The order rule of an accepted call that left the bytes Z and answered r: for every list of starts that names each fixed halfedge once.
abbrev pub AnyOrder : Halfedges → List Float → List Float → List ℕ → List Float → List ℕ → ℕ → ℕ → List ℕ → Spreading → Type 0
AnyOrder H P N X T Y n p Z r =
    check_lists H P N X T Y n p ≡ Ok tt → (starts : List ℕ) → NamesFixed (float_steps H P N X n) starts
    → PreviewFree (float_steps H P N X n) starts T Z (looked_of r) (turned_of r)
