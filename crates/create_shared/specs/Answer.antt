-- The answer of a making: the count of circular tangents on an edge without direction, or the refusal.
use Rattle.std.specs.Prelude.{ℕ, ◌≡◌, Result, Ok, Err}
use Rattle.questions.specs.Check.{Checked, number_of, place_of, value_or, when_accepted}
use Rattle.questions.specs.declared.Refusal.{Refusal}

-- how many circular tangents were computed on an edge without direction, or the refusal
abbrev pub Making : Type 0
Making = Result ℕ Refusal

-- the count; 0 for a refusal, which computes none
abbrev pub directionless_of : Making → ℕ
directionless_of = value_or 0 (λ directionless. directionless)

-- what the questions were answered
abbrev pub checked_of : Making → Checked
checked_of (Ok directionless) = Ok tt
checked_of (Err refusal) = Err refusal

-- what the definitions give of an answer `r`, after the answer `checked` of the questions, where the making counts so many: number, place and count
pub record Values (checked : Checked) (count : ℕ) (r : Making) : Type 0 where
  pub number : number_of r ≡ number_of checked
  pub place : place_of r ≡ place_of checked
  pub directionless : directionless_of r ≡ when_accepted checked count 0
