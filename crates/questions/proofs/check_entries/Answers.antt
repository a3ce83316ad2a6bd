-- `questions::check_entries` meets its contract.
use Rattle.std.proofs.Common.{◌≡◌, rules, sym}
use Rattle.questions.specs.Check.{check_entries}
use Rattle.questions.specs.Questions.{names_halfedge, has_clear_sign}
use Rattle.questions.proofs.Accepted.{entries_exactly}
use Rattle.questions.proofs.check_entries.Goals as goal

pub returns : goal.returns
unfolding check_entries
returns c =
    let a = c.args in
    let named = c.ask.ensures (names_halfedge a.entries.now a.n) (λ k b h post. search rules) in
    let answer : c.ask-2.result ≡ check_entries a.sofar a.entries.now a.smoothness.now a.n =
    rw (c.in_ok-sofar.was, sym named, c.in_ok-ask.was) (c.ask-2.ensures (has_clear_sign a.smoothness.now) (λ k b h post. search rules)) in
    record { answer = answer; accepted = entries_exactly a.sofar a.n a.entries.now a.smoothness.now answer }

pub returns-in_err-ask-clause-accepted : goal.returns-in_err-ask-clause-accepted
unfolding check_entries
returns-in_err-ask-clause-accepted c =
    let a = c.args in
    let named = c.ask.ensures (names_halfedge a.entries.now a.n) (λ k b h post. search rules) in
    entries_exactly a.sofar a.n a.entries.now a.smoothness.now (rw (c.in_ok-sofar.was, sym named) (search rules))
