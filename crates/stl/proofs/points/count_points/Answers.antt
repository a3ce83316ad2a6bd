use native.Mathlib.Omega.{arith}
use Rattle.common.proofs.Count.{count_start}
use Rattle.stl.specs.File.Points.{is_first}
use Rattle.stl.proofs.PointsLaws.Counts.{counted_all}
use Rattle.stl.proofs.points.count_points.Goals as goal

pub loop-lo-init : goal.loop-lo-init
loop-lo-init c = (omega arith, count_start (is_first c.args.file.now.bytes.now))

pub returns : goal.returns
returns c = counted_all c.args.file.now c.loop-lo.lo c.loop-lo.points c.loop-lo.invariant.1 (omega arith)
