-- `little_endian::fill` meets its contract: after i turns the first i places are filled. Assumes nothing.
use Rattle.std.proofs.Common.{◌≡◌, ◌+◌, ◌*◌}
use Rattle.little_endian.specs.Filled.{filled}
use Rattle.little_endian.proofs.fill.Given as goal

abbrev pub invariant-loop-i : goal.invariant-loop-i
invariant-loop-i g l =
    let number = g.T.LittleEndian.number in
    l.front ≡ filled (λ i. number l.s (l.at + g.T.LittleEndian.BYTES * i)) l.i l.initial.front
