-- `lines::put_tangent_line` meets its contract. Assumes nothing.
use Rattle.program.specs.Lines.Text.{ascii}
use Rattle.program.specs.Lines.Lines.{tangent_line}
use Rattle.program.proofs.LinesLaws.Put.{put_then}
use Rattle.program.proofs.lines.put_tangent_line.Goals as goal

pub returns : goal.returns
unfolding tangent_line ascii
returns c =
    put_then
    (put_then
    (put_then (put_then (put_then c.put_decimal-x.ensures c.put_bits_field-y.ensures) c.put_bits_field-z.ensures) c.put_bits_field-w.ensures)
    c.put_bits_field-end.ensures)
    c.put_byte.ensures
