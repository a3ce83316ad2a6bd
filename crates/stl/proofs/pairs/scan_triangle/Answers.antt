use Rattle.std.proofs.Common.{◌≡◌, ◌+◌, ◌*◌, arith}
use Rattle.stl.proofs.pairs.scan_triangle.Goals as goal

pub scan_one-requires : goal.scan_one-requires
scan_one-requires c =
    let e : 3 * c.args.t + 1 + 1 ≡ 3 * c.args.t + 2 = omega arith in
    (c.requires.0, c.reverse_keys-keys.ensures.third, c.requires.1, omega (arith, c.requires.2), rw e at c.scan_one-second.ensures)

pub returns : goal.returns
returns c = let e : 3 * c.args.t + 2 + 1 ≡ 3 * (c.args.t + 1) = omega arith in rw e at c.scan_one.ensures
