-- `lines::put_tangent_lines` meets its contract: after e turns the lines below e are stored. Assumes nothing.
use Rattle.std.proofs.Common.{add-one}
use Rattle.program.specs.Lines.Lines.{tangent_lines}
use Rattle.program.proofs.LinesLaws.Put.{put_then}
use Rattle.program.proofs.lines.put_tangent_lines.Goals as goal

pub loop-e-preserved : goal.loop-e-preserved
unfolding tangent_lines
loop-e-preserved c = rw add-one (put_then c.loop-e.invariant c.put_tangent_line-end.ensures)
