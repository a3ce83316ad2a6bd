-- `records::check_bodies` meets its contract: before each turn `place` is within the input, and the records that are left are asked about from there. Assumes nothing.
use Rattle.std.proofs.Common.{arith, sym, ◌∙◌}
use Rattle.records.proofs.Parse.{within, next_body}
use Rattle.records.proofs.check_bodies.Goals as goal

pub loop-kind-preserved : goal.loop-kind-preserved
loop-kind-preserved c =
    let a = c.args in
    let l = c.loop-kind in
    let y = c.body_bytes-bytes in
    let passed = sym c.check_record.ensures ∙ c.in_ok-check_record.was in
    let next = next_body a.counts.points a.counts.halfedges l.kind-index a.kinds.now _ c.loop-kind-test.true a.s.now l.place y.result y.ensures.bytes in
    (omega (arith, within _ _ _ _ passed), sym (rw passed at next) ∙ l.invariant.1)
