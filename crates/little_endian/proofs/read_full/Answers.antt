-- `little_endian::read_full` meets its contract: what a further read gave follows at the front of the buffer. Assumes nothing.
use Rattle.std.proofs.Common.{rules}
use Rattle.little_endian.proofs.BufferReads.{read_again, read_failed}
use Rattle.little_endian.proofs.read_full.Goals as goal
use Rattle.little_endian.proofs.read_full.Goals.{in-Ok, in-Err+else-ne}

pub loop-preserved : goal.loop-preserved
loop-preserved g c =
    let before = c.loop.invariant in
    elim c.match-read.branch [
      | in-Ok w ↦ rw w.done-is (search rules, read_again _ _ _ _ _ _ _ before.0 before.1 _ w.in-Ok.ensures.bound.0 w.in-Ok.ensures.bytes.0)
      | in-Err+else-ne w ↦ rw w.done-is (search rules, read_failed _ _ _ _ _ _ _ before.0 before.1 w.in-Err.ensures.bytes)
    ]
