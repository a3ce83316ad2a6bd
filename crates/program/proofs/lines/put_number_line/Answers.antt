-- `lines::put_number_line` meets its contract. Assumes nothing.
use Rattle.program.specs.Lines.Text.{ascii}
use Rattle.program.specs.Lines.Lines.{number_line}
use Rattle.program.proofs.LinesLaws.Put.{put_then}
use Rattle.program.proofs.lines.put_number_line.Goals as goal

pub returns : goal.returns
unfolding number_line ascii
returns c =
    put_then (put_then c.put_text-number.ensures c.put_decimal-end.ensures) c.put_byte.ensures
