-- `lines::put_decimal` meets its contract. Assumes nothing.
use Rattle.std.proofs.Common.{◌∙◌}
use Rattle.program.proofs.LinesLaws.Digits.{decimal_is}
use Rattle.program.proofs.lines.put_decimal.Goals as goal

pub returns : goal.returns
returns c = rw (c.as_bytes.ensures.value ∙ c.format.ensures.text ∙ decimal_is c.args.n c.ranges.n.fits) at c.put_text.ensures
