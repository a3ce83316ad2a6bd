use Rattle.std.proofs.Common.{◌≡◌, arith}
use Rattle.stl.proofs.TableLaws.Tables.{indexed_zeros}
use Rattle.stl.proofs.PairsLaws.Scans.{scanned_start}
use Rattle.stl.proofs.pairs.scan.Goals as goal

pub enter_all-requires : goal.enter_all-requires
enter_all-requires c = indexed_zeros c.args.block.now

pub loop-t-init : goal.loop-t-init
loop-t-init c = scanned_start _ (omega arith) (c.fill.ensures.after (λ y e. e)) c.requires.2

pub returns : goal.returns
returns c = let e : c.loop-t.t ≡ c.args.block.now.file.triangles = omega arith in rw e at c.loop-t.invariant
