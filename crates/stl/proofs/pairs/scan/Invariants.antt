-- The halfedges of the triangles below t were looked at.
use Rattle.std.proofs.Common.{◌*◌}
use Rattle.stl.specs.Pairs.Twins.{Scanned}
use Rattle.stl.proofs.pairs.scan.Given as goal

abbrev pub invariant-loop-t : goal.invariant-loop-t
invariant-loop-t l = Scanned l.block (3 * l.t) l.twins l.lowest
