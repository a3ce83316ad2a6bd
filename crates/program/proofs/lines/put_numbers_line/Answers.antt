-- `lines::put_numbers_line` meets its contract. Assumes nothing.
use Rattle.program.specs.Lines.Lines.{numbers_line}
use Rattle.program.proofs.LinesLaws.Put.{put_then}
use Rattle.program.proofs.lines.put_numbers_line.Goals as goal

pub returns : goal.returns
unfolding numbers_line
returns c =
    put_then (put_then c.put_text-number.ensures c.put_decimal-end.ensures) c.put_number_line.ensures
