use Rattle.std.proofs.Common.{◌≡◌, ◌*◌, arith}
use lib.IntN.{pos}
use Rattle.mesh.specs.Mesh.{halfedge_stride}
use Rattle.little_endian.proofs.Places.{filled_from_places}
use Rattle.stl.specs.File.File.{halfedge_count}
use Rattle.stl.specs.File.Lists.{halfedge_item}
use Rattle.stl.proofs.PairsLaws.Written.{item_is}
use Rattle.stl.proofs.pairs.write_pairs.Goals as goal

pub returns : goal.returns
returns c =
    let s = c.args.file.now.bytes.now in
    let n = 3 * c.args.file.now.triangles in
    let l = c.loop-lo.invariant in
    let counted : n ≡ halfedge_count s = omega (arith, c.args.file.now.counted) in
    let e : c.loop-lo.lo ≡ n = omega (arith, l.within) in
    filled_from_places (halfedge_item s) (n * halfedge_stride) c.args.h.now c.loop-lo.h (pos 0) l.further.0 (omega (arith, c.requires.2)) (item_is s n counted c.loop-lo.h l.starts l.ends (rw e at l.pairs)) l.further.1
