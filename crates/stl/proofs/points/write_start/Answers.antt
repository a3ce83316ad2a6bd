use native.Mathlib.Omega.{arith}
use Rattle.stl.proofs.PointsLaws.Writing.{number_fits, room, written_first, written_later}
use Rattle.stl.proofs.points.write_start.Goals as goal

pub put_point-requires : goal.put_point-requires
put_point-requires c = room c.requires

pub overflow_cast-h : goal.overflow_cast-h
overflow_cast-h c = omega (arith, number_fits c.requires)

pub overflow_add-result : goal.overflow_add-result
overflow_add-result c = omega (arith, number_fits c.requires)

pub returns-then-lower-c : goal.returns-then-lower-c
returns-then-lower-c c = written_first c.requires c.if-lower-c.true c.put_point.ensures c.corner_at.ensures

pub returns : goal.returns
returns c = written_later c.requires c.if-lower-c.false
