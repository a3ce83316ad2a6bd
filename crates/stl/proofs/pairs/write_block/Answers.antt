use Rattle.std.proofs.Common.{◌≡◌, arith}
use Rattle.stl.proofs.TableLaws.Tables.{indexed_zeros}
use Rattle.stl.proofs.PairsLaws.Written.{pairs_end}
use Rattle.stl.proofs.pairs.write_block.Goals as goal

pub enter_all-requires : goal.enter_all-requires
enter_all-requires c = indexed_zeros c.args.block.now

pub returns-clause-pairs : goal.returns-clause-pairs
returns-clause-pairs c =
    let B = c.args.block.now in
    let e : c.loop-t.t ≡ B.file.triangles = omega (arith, B.within) in
    pairs_end B c.requires.0 c.requires.1 c.loop-t.h (rw e at c.loop-t.invariant.pairs.paired)
