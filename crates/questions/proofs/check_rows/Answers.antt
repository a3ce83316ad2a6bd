-- `questions::check_rows` meets its contract.
use Rattle.std.proofs.Common.{rules}
use Rattle.questions.specs.Check.{check_rows}
use Rattle.questions.specs.Questions.{has_row}
use Rattle.questions.proofs.Accepted.{rows_exactly}
use Rattle.questions.proofs.check_rows.Goals as goal

pub returns-clause-accepted : goal.returns-clause-accepted
unfolding check_rows
returns-clause-accepted c =
    let a = c.args in
    rows_exactly a.checked a.n a.h.now a.rows (rw c.in_ok-checked.was (c.ask.ensures (has_row a.h.now a.rows) (λ k b h post. search rules)))
