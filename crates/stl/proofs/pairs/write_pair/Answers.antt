use Prim.Native.Nat.{◌+◌}
use Rattle.std.proofs.Common.{arith}
use lib.ListN.{length-set}
use mathlib.Core.Path.{refl}
use Rattle.stl.proofs.PairsLaws.Backs.{found_back}
use Rattle.stl.proofs.FileLaws.Signed.{signed}
use Rattle.stl.proofs.PairsLaws.Written.{pairs_none, pairs_both, can_next}
use Rattle.stl.proofs.pairs.write_pair.Goals as goal

pub returns-then-k-block-clause-pairs : goal.returns-then-k-block-clause-pairs
returns-then-k-block-clause-pairs c =
    let B = c.args.block.now in
    let r = c.requires.2 in
    can_next r
    (pairs_both B r.edges_keys r.all c.args.f c.requires.0 c.args.h.now r.paired (found_back B c.args.f c.requires.1 c.find-k.ensures) c.if-k-block.true (omega (arith, r.room))
    (signed (B.lo + c.find-k.result) (omega (arith, c.if-k-block.true, B.within, B.file.few))) (signed c.args.f (omega (arith, c.requires.0, B.file.few))))
    (simp length-set refl)

pub returns-else-k-block-clause-pairs : goal.returns-else-k-block-clause-pairs
returns-else-k-block-clause-pairs c =
    let B = c.args.block.now in
    let r = c.requires.2 in
    can_next r (pairs_none B r.edges_keys r.all c.args.f c.requires.0 c.args.h.now r.paired (found_back B c.args.f c.requires.1 c.find-k.ensures) (omega (arith, c.if-k-block.false))) refl
