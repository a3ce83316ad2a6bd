-- `records::check_bodies` meets its contract: before each turn `place` is within the input, and the records that are left are asked about from there. Assumes nothing.
use Rattle.std.proofs.Common.{◌≡◌, ◌≤◌, length, drop}
use Rattle.records.specs.Records.{positions_at, check_bodies}
use Rattle.records.proofs.check_bodies.Given as goal

abbrev pub invariant-loop-kind : goal.invariant-loop-kind
invariant-loop-kind l =
    let answer = check_bodies l.s l.counts.points l.counts.halfedges in
    (l.place ≤ length l.s) × (answer (drop l.kind-index l.kinds) l.place ≡ answer l.kinds positions_at)
