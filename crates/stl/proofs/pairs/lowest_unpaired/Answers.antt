use Rattle.std.proofs.Common.{◌≡◌, ◌*◌, arith}
use Rattle.stl.specs.File.File.{halfedge_count}
use Rattle.stl.proofs.PairsLaws.Covers.{covered_lowest}
use Rattle.stl.proofs.pairs.lowest_unpaired.Goals as goal

pub returns : goal.returns
returns c =
    let s = c.args.file.now.bytes.now in
    let n : 3 * c.args.file.now.triangles ≡ halfedge_count s = omega (arith, c.args.file.now.counted) in
    let e : c.loop-lo.lo ≡ halfedge_count s = omega (arith, c.args.file.now.counted) in
    rw n (covered_lowest s (rw e at c.loop-lo.invariant.1))
