-- `questions::check_flags` meets its contract.
use Rattle.std.proofs.Common.{rules}
use Rattle.questions.specs.Check.{check_flags}
use Rattle.questions.specs.Questions.{is_flag}
use Rattle.questions.proofs.Accepted.{flags_exactly}
use Rattle.questions.proofs.check_flags.Goals as goal

pub returns-clause-accepted : goal.returns-clause-accepted
unfolding check_flags
returns-clause-accepted c =
    let a = c.args in
    flags_exactly a.mesh a.n a.fixed.now (rw c.in_ok-mesh.was (c.ask.ensures (is_flag a.fixed.now) (λ k b h post. search rules)))
