-- The answer of a making: its parts. Assumes nothing.
use Rattle.std.proofs.Common.{ℕ, ◌≡◌}
use Rattle.questions.specs.Check.{Checked, answer_of}
use Rattle.questions.proofs.Answered.{checks_of, value_of_answer}
use Rattle.create_shared.specs.Answer.{Making, Values}

pub values_of : (c : Checked) (k : ℕ) {r : Making} → r ≡ answer_of c k → Values c k r
values_of c k e =
    let checks = checks_of c k e in
    record { number = checks.number; place = checks.place; directionless = value_of_answer c k e 0 (λ directionless. directionless) }
