use Rattle.std.proofs.Common.{arith}
use Rattle.stl.proofs.PairsLaws.Covers.{covered_first, covered_same}
use Rattle.stl.proofs.pairs.lowest_alone.Goals as goal

pub returns-then-twins-k : goal.returns-then-twins-k
returns-then-twins-k c = covered_first c.requires.0 c.requires.1 (omega arith) c.if-twins-k.true c.loop-k.invariant c.min.ensures

pub returns : goal.returns
returns c = covered_same c.requires.0 c.requires.1 (λ i l. c.loop-k.invariant i (omega arith))
