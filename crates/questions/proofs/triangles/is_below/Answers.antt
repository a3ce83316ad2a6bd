-- `questions::triangles::is_below` meets its contract.
use Prim.Native.Nat.{◌%◌}
use native.Mathlib.Omega.{arith}
use mathlib.Core.Path.{◌≡◌}
use Rattle.mesh.proofs.Signed.{within_limit}
use Rattle.questions.proofs.triangles.is_below.Goals as goal

pub returns : goal.returns
returns c =
    let count : c.args.count % 2147483648 ≡ c.args.count = omega (arith, c.requires) in
    rw count (within_limit c.args.x c.args.count c.ranges.x.sfits c.requires)
