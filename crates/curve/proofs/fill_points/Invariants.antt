-- `curve::fill_points` meets its contract: after i turns the first i points stand before what is left of the list. Assumes nothing.
use Rattle.std.proofs.Common.{◌≡◌, ◌*◌, ◌++◌, drop}
use Rattle.curve.proofs.Points.{first_points}
use Rattle.curve.proofs.fill_points.Given as goal

abbrev pub invariant-loop-i : goal.invariant-loop-i
invariant-loop-i l = l.points ≡ first_points l.p0 l.p1 l.p2 l.p3 l.count l.i ++ drop (l.i * 3) l.initial.points
