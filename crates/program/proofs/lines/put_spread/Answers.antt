-- `lines::put_spread` meets its contract. Assumes nothing.
use Rattle.program.specs.Lines.Text.{ascii}
use Rattle.program.specs.Lines.Lines.{lines_of}
use Rattle.program.proofs.LinesLaws.Put.{put_then}
use Rattle.program.proofs.lines.put_spread.Goals as goal

pub returns : goal.returns
unfolding lines_of ascii
returns c =
    put_then c.put_tangents-at.ensures c.put_numbers_line.ensures
