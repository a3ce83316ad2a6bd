-- `questions::ask` meets its contract: what is left to be searched from a place on gives what all gives.
use Rattle.std.proofs.Common.{true, false}
use Rattle.questions.proofs.Search.{search_start, search_on, search_found, search_end}
use Rattle.questions.proofs.ask.Goals as goal

pub loop-place-init : goal.loop-place-init
loop-place-init g c t is =
    search_start t c.args.places

pub returns-then-not-test : goal.returns-then-not-test
returns-then-not-test g c t is =
    let l = c.loop-place in
    search_found t _ _ l.place (l.invariant t is) c.loop-place-test.true (is l.place false c.loop-place-test.true c.if-not-test.ensures)

pub loop-place-preserved : goal.loop-place-preserved
loop-place-preserved g c t is =
    let l = c.loop-place in
    search_on t _ l.place c.loop-place-test.true (is l.place true c.loop-place-test.true c.if-not-test.ensures) (l.invariant t is)

pub returns : goal.returns
returns g c t is =
    let l = c.loop-place in
    search_end t _ _ l.place (l.invariant t is) c.loop-place-test.false
