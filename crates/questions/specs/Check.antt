-- The first question that is answered no, and the lowest place that breaks it.
use Rattle.std.specs.Prelude.{ℕ, ◌/◌, ◌≡◌, List, Bool, true, false, length, ℤ, ltb, Float, Result, Ok, Err, ⊤}
use Rattle.mesh.specs.Mesh.{Halfedges}
use Rattle.common.specs.Lowest.{lowest}
use Rattle.questions.specs.Questions.{counts_fit, has_points, has_pair, is_mutual, is_opposite, is_joined, has_mesh, names_halfedge, has_clear_sign, is_flag, has_row}
use Rattle.questions.specs.Questions.{number}
use Rattle.questions.specs.declared.Question.{Question}
use Rattle.questions.specs.declared.Question.TheVariants.{Counts, Lengths, Points, Pair, Mutual, Opposite, Joined, Mesh, Entry, Sign, Flag, Row}
use Rattle.questions.specs.declared.Refusal.{Refusal}

-- the answer of the questions: each is answered yes, or the first no with the lowest place that breaks it
abbrev pub Checked : Type 0
Checked = Result ⊤ Refusal

abbrev pub refused : {A : Type 0} → Question → ℕ → Result A Refusal
refused question place = Err (record { question = question; place = place })

-- number and place of an answer; 0 where no question refuses
abbrev pub number_of : {A : Type 0} → Result A Refusal → ℕ
number_of (Ok a) = 0
number_of (Err refusal) = number refusal.question

abbrev pub place_of : {A : Type 0} → Result A Refusal → ℕ
place_of (Ok a) = 0
place_of (Err refusal) = refusal.place

abbrev pub cond_checked : Bool → Checked → Checked → Checked
cond_checked true a b = a
cond_checked false a b = b

-- a question that is put at one place; 0 for one about the whole call
abbrev pub asked : Question → ℕ → Bool → Checked
asked question place answer = cond_checked answer (Ok tt) (refused question place)

-- the answer where k is the lowest of so many places that breaks the question, or their number
abbrev pub refused_below : Question → ℕ → ℕ → Checked
refused_below question k places = cond_checked (ltb k places) (refused question k) (Ok tt)

-- a question that is put to each of so many places
abbrev pub each : Question → (ℕ → Bool) → ℕ → Checked
each question test places = refused_below question (lowest test places) places

-- the first no is the answer
infixl 30 ◌then◌
abbrev pub ◌then◌ : Checked → Checked → Checked
◌then◌ (Ok a) next = next
◌then◌ (Err refusal) next = Err refusal

-- the answer of a call: its own where the questions accept it
abbrev pub answer_of : {A : Type 0} → Checked → A → Result A Refusal
answer_of (Ok a) answer = Ok answer
answer_of (Err refusal) answer = Err refusal

-- what a call with this answer leaves in a list: `after` where it is accepted, and where it is refused the list as lent
abbrev pub when_accepted : {A : Type 0} → Checked → A → A → A
when_accepted (Ok a) after lent = after
when_accepted (Err refusal) after lent = lent

-- a value of an answer: `value` of what is accepted, and `none` for a refusal, which has no value
abbrev pub value_or : {A B : Type 0} → B → (A → B) → Result A Refusal → B
value_or none value (Ok a) = value a
value_or none value (Err refusal) = none

-- what the definitions give of an answer `r` of a call whose questions are answered by `checked`: number and place
pub record Values {A : Type 0} (checked : Checked) (r : Result A Refusal) : Type 0 where
  pub number : number_of r ≡ number_of checked
  pub place : place_of r ≡ place_of checked

-- the questions 1 to 7 over n halfedges and p points; `lengths` is the answer to question 2 of the lists that the call is lent
unfoldable pub check_mesh : Halfedges → ℕ → ℕ → Bool → Checked
check_mesh H n p lengths =
    asked Counts 0 (counts_fit n p)
    then asked Lengths 0 lengths
    then each Points (has_points H p) n
    then each Pair (has_pair H n) n
    then each Mutual (is_mutual H) n
    then each Opposite (is_opposite H) n
    then each Joined (is_joined H) n

-- question 8 of each triangle, after earlier answers
unfoldable pub check_refs : Checked → List ℤ → ℕ → Checked
check_refs sofar R n = sofar then each Mesh (has_mesh R) (n / 3)

-- the questions 9 and 10 of each sharp entry
unfoldable pub check_entries : Checked → List ℕ → List Float → ℕ → Checked
check_entries sofar I Q n =
    sofar
    then each Entry (names_halfedge I n) (length I)
    then each Sign (has_clear_sign Q) (length I)

-- question 11 of each flag
unfoldable pub check_flags : Checked → List ℕ → ℕ → Checked
check_flags sofar X n = sofar then each Flag (is_flag X) n

-- question 12 of each halfedge, for making from normals: the rows of the list's halfedges are among so many
unfoldable pub check_rows : Checked → List ℤ → ℕ → ℕ → Checked
check_rows sofar list rows n = sofar then each Row (has_row list rows) n
