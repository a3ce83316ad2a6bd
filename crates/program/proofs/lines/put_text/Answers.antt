-- `lines::put_text` meets its contract. Assumes nothing.
use Rattle.std.proofs.Common.{refl}
use Rattle.program.proofs.LinesLaws.Put.{put_over}
use Rattle.program.proofs.lines.put_text.Goals as goal

pub returns : goal.returns
returns c = let a = c.args in rw c.copy_from_slice.ensures.after (put_over a.out.now a.text.now a.at _ refl c.requires)
