-- `curve::fill_points` meets its contract: each turn writes one point more, and the last leaves no place behind them. Assumes nothing.
use Prim.Native.Nat.{◌*◌, ◌+◌, ◌≤◌}
use native.Mathlib.Omega.{arith}
use mathlib.Core.Path.{◌≡◌}
use lib.ListN.{length}
use Rattle.curve.proofs.Points.{points_turn, points_whole}
use Rattle.curve.proofs.fill_points.Goals as goal

pub loop-i-preserved : goal.loop-i-preserved
loop-i-preserved c =
    let a = c.args in
    let room : c.loop-i.i * 3 + 3 ≤ length a.points.now = omega (arith, c.requires.1, c.loop-i-test.true) in
    points_turn a.p0 a.p1 a.p2 a.p3 a.count _ _ _ _ c.loop-i.invariant room (rw (c.position_at-point.ensures, c.parameter_at.ensures) at c.put_point.ensures)

pub returns : goal.returns
returns c =
    let a = c.args in
    let end : c.loop-i.i ≡ a.count = omega (arith, c.loop-i.auto.i-end, c.loop-i-test.false) in
    points_whole a.p0 a.p1 a.p2 a.p3 a.count _ _ c.requires.1 (rw end at c.loop-i.invariant)
