-- `questions::check_refs` meets its contract.
use Rattle.std.proofs.Common.{rules}
use Rattle.questions.specs.Check.{check_refs}
use Rattle.questions.specs.Questions.{has_mesh}
use Rattle.questions.proofs.Accepted.{refs_exactly}
use Rattle.questions.proofs.check_refs.Goals as goal

pub returns-clause-accepted : goal.returns-clause-accepted
unfolding check_refs
returns-clause-accepted c =
    let a = c.args in
    refs_exactly a.sofar a.n a.refs.now (rw c.in_ok-sofar.was (c.ask.ensures (has_mesh a.refs.now) (λ k b h post. search rules)))
