-- `lines::put_hex` meets its contract. Assumes nothing.
use Rattle.std.proofs.Common.{◌∙◌, ap, arith}
use Rattle.hex.specs.Hex.{encode_lower}
use Rattle.program.specs.Lines.Text.{hex}
use Rattle.program.proofs.LinesLaws.Digits.{hex_is, hex_length}
use Rattle.program.proofs.LinesLaws.Put.{put_over}
use Rattle.program.proofs.lines.put_hex.Goals as goal

pub returns : goal.returns
returns c =
    let a = c.args in
    let written = rw c.unwrap.ensures at c.encode_to_slice.ensures.written in
    rw (written ∙ ap encode_lower c.to_be_bytes.ensures ∙ hex_is a.n)
    (put_over a.out.now (hex a.n) a.at _ (omega (arith, hex_length a.n)) c.requires)
