-- `table::look` meets its contract: the walk goes on from where it stands, and node numbers rise.
use Rattle.stl.proofs.TableLaws.Looks.{Going, left}
use Rattle.stl.proofs.table.look.Given as goal

abbrev pub invariant-loop-node : goal.invariant-loop-node
invariant-loop-node l = Going l.block l.m l.table l.key l.at l.node

abbrev pub decreases-loop-node : goal.decreases-loop-node
decreases-loop-node l = left l.m l.node
