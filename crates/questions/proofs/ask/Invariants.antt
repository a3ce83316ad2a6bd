-- `questions::ask`: the places passed gave yes, whatever test the closure's answers are those of.
use Rattle.std.proofs.Common.{◌≡◌, ℕ, Bool, ◌<◌}
use Rattle.questions.proofs.Search.{Searched}
use Rattle.questions.proofs.ask.Given as goal

abbrev pub invariant-loop-place : goal.invariant-loop-place
invariant-loop-place g l =
    (t : ℕ → Bool) → ((k : ℕ) (b : Bool) → k < l.places → goal.F-post g l.test k b → b ≡ t k) → Searched t l.places l.place
