-- `points::mark_all` meets its contract: the marks are right for the places from j on. Assumes nothing.
use Rattle.stl.specs.Points.Firsts.{Marked}
use Rattle.stl.proofs.points.mark_all.Given as goal

abbrev pub invariant-loop-j : goal.invariant-loop-j
invariant-loop-j l = Marked l.block l.j l.first
