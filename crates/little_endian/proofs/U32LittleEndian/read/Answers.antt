-- `u32::read` meets its contract. Assumes nothing.
use Rattle.std.proofs.Common.{◌∙◌}
use Rattle.little_endian.proofs.Numbers.{bytes_are}
use Rattle.little_endian.proofs.U32LittleEndian.read.Goals as goal

pub returns : goal.returns
returns c = c.from_le_bytes.ensures ∙ bytes_are c.args.s.now 3 c.args.at
