-- `tangents::answer_to` meets its contract: what `answer` leaves at the front of the output's list is written. Assumes nothing.
use Rattle.std.proofs.Common.{rules}
use Rattle.std.proofs.KnownBytes.{Appends-kept}
use Rattle.program.proofs.Rooms.{output_in_front}
use Rattle.tangents.proofs.answer_to.Goals as goal

pub returns : goal.returns
returns g c =
    let front = output_in_front _ _ _ _ c.answer-size.ensures.output in
    let written = rw front at c.in_ok-write_all.ensures.bytes in
    let kept = Appends-kept _ _ _ _ written c.flush.ensures.bytes in
    search rules
