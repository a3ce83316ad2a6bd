-- `i32::read` meets its contract. Assumes nothing.
use mir.Syntax.{w32}
use mir.Facts.{to_z-of_z}
use Rattle.std.proofs.Common.{◌∙◌}
use Rattle.little_endian.proofs.Numbers.{i32_is}
use Rattle.little_endian.proofs.I32LittleEndian.read.Goals as goal

pub returns : goal.returns
returns c = to_z-of_z {w = w32} (record { sfits = c.cast_signed.type_inv }) ∙ c.cast_signed.ensures ∙ rw c.read.ensures (i32_is _)
