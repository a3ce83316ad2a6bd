-- `records::body_at` meets its contract: `at` and the records that are left before the body come to where it is. Assumes nothing.
use Rattle.std.proofs.Common.{◌≡◌, ◌+◌, ◌*◌, ◌≤◌, ◌^◌, drop}
use Rattle.records.specs.Records.{header_bytes, records_length}
use Rattle.records.proofs.body_at.Given as goal

abbrev pub invariant-loop-before : goal.invariant-loop-before
invariant-loop-before l =
    let left = records_length l.counts.points l.counts.halfedges in
    (l.at + left (drop l.before-index l.before-items) ≡ left l.before-items + header_bytes) × (l.at ≤ (l.before-index + 1) * 2 ^ 22)
