use Rattle.stl.proofs.PairsLaws.Backs.{found_back}
use Rattle.stl.proofs.PairsLaws.Scans.{scan_none, scan_first, scan_second}
use Rattle.stl.proofs.pairs.scan_one.Goals as goal

pub returns-then-k-block : goal.returns-then-k-block
returns-then-k-block c = scan_none c.requires.3 c.requires.4 (found_back c.args.block.now c.args.f c.requires.1 c.find-k.ensures) c.if-k-block.true

pub returns-then-twins-k : goal.returns-then-twins-k
returns-then-twins-k c = scan_first c.requires.3 c.requires.4 (found_back c.args.block.now c.args.f c.requires.1 c.find-k.ensures) c.if-k-block.false c.if-twins-k.true

pub returns : goal.returns
returns c = scan_second c.requires.3 c.requires.4 (found_back c.args.block.now c.args.f c.requires.1 c.find-k.ensures) c.if-k-block.false c.requires.0 c.if-twins-k.false c.min.ensures
