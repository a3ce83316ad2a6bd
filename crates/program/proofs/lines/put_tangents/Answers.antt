-- `lines::put_tangents` meets its contract. Assumes nothing.
use Rattle.program.specs.Lines.Text.{ascii}
use Rattle.program.specs.Lines.Lines.{tangents_lines}
use Rattle.program.proofs.LinesLaws.Put.{put_then}
use Rattle.program.proofs.lines.put_tangents.Goals as goal

pub returns : goal.returns
unfolding tangents_lines ascii
returns c =
    put_then c.put_number_line-at.ensures c.put_tangent_lines.ensures
