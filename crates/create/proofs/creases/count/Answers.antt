-- `create::creases::count` meets its contract: 0 counts as 0, all else as 1. Assumes nothing.
use Rattle.std.proofs.Common.{◌≡◌, refl, ◌∙◌, Bool, true, false, cond, not, pos}
use lib.Ieee.{binary64, of_int, of_bits, eq, ne}
use mir.Val.{bool_byte}
use Rattle.float.specs.Ops.{zero, one}
use Rattle.create.proofs.creases.count.Goals as goal

by_case : (b : Bool) → of_int binary64 (pos (bool_byte (not b))) ≡ cond b zero one
unfolding of_int of_bits
by_case true = refl
by_case false = refl

pub returns : goal.returns
unfolding ne
returns c = c.from.ensures ∙ by_case (eq c.args.s zero)
