-- `points::enter_all` meets its contract: after m turns the first m places are entered. Assumes nothing.
use Rattle.stl.specs.Table.Tree.{Indexed}
use Rattle.stl.specs.Points.Firsts.{InBlock}
use Rattle.stl.proofs.points.enter_all.Given as goal

abbrev pub invariant-loop-m : goal.invariant-loop-m
invariant-loop-m l = Indexed l.block l.m l.table l.tags × InBlock l.block l.m l.first
