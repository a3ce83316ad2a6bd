-- `little_endian::fill` meets its contract: after i turns the first i places are filled. Assumes nothing.
use Rattle.std.proofs.Common.{arith, ◌≡◌}
use Rattle.little_endian.proofs.Filled.{filled_none, filled_again, filled_front}
use Rattle.std.proofs.lemmas.List.{length-take-le}
use Rattle.little_endian.proofs.fill.Goals as goal

pub loop-i-init : goal.loop-i-init
loop-i-init g c = filled_none _ _

pub loop-i-preserved : goal.loop-i-preserved
loop-i-preserved g c = filled_again _ c.loop-i.i c.loop-i.front _ _ c.loop-i.invariant (omega arith) (rw c.BYTES.ensures at c.read.ensures)

pub returns : goal.returns
returns g c =
    let z : c.loop-i.i ≡ c.args.count = omega (arith, c.loop-i.auto.i-end, c.loop-i-test.false, length-take-le c.args.count c.args.xs.now c.requires.1) in
    filled_front _ c.args.count c.args.xs.now c.loop-i.front c.requires.1 (rw z at c.loop-i.invariant)
