-- `tangents::run` meets its contract: the answer to what was read is that to the whole input. Assumes nothing.
use Rattle.std.proofs.Common.{◌≡◌, ◌≤◌, length, take, Ok, rules, arith, length-take-le}
use Rattle.tangents.proofs.Streams.{read_answered}
use Rattle.tangents.proofs.run.Goals as goal

pub returns-clause-answer : goal.returns-clause-answer
returns-clause-answer g c =
    let full : c.read_full.result ≡ Ok c.in_ok-n.n = search rules in
    let read = c.read_full.ensures in
    let buf = c.read_full.new.buf in
    let fits : c.in_ok-n.n ≤ length buf = rw full at read.within in
    let long : length (take c.in_ok-n.n buf) ≡ c.in_ok-n.n = length-take-le _ buf fits in
    let end = rw full at read.end in
    let answered = read_answered _ _ _ _ (take c.in_ok-n.n buf) _ (rw full at read.bytes) (λ few. end (omega arith)) c.answer_to.ensures in
    search rules
