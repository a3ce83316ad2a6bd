use Rattle.stl.specs.Table.Tree.{Indexed}
use Rattle.stl.proofs.pairs.enter_all.Given as goal

abbrev pub invariant-loop-m : goal.invariant-loop-m
invariant-loop-m l = Indexed l.block l.m l.table l.tags
