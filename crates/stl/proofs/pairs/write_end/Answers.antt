use native.Mathlib.Omega.{arith}
use mathlib.Core.Path.{◌≡◌, ap, ◌∙◌}
use Prim.Native.Nat.{◌*◌, ◌^◌, ◌<◌}
use lib.ListN.{get_or}
use lib.IntN.{pos}
use Rattle.mesh.specs.Mesh.{halfedge_stride, next_halfedge}
use Rattle.stl.specs.File.Points.{point_of}
use Rattle.stl.proofs.FileLaws.Points.{number_within}
use Rattle.stl.proofs.TableLaws.SameKey.{next_in}
use Rattle.stl.proofs.FileLaws.Signed.{signed, signed_again}
use Rattle.stl.proofs.PairsLaws.Written.{ends_next}
use Rattle.stl.proofs.pairs.write_end.Goals as goal

pub overflow_mul-h : goal.overflow_mul-h
overflow_mul-h c = omega (arith, next_in c.args.file.now.triangles c.args.e c.next_halfedge.ensures c.requires.inside, c.args.file.now.few)

pub offset_bounds-h-next_halfedge : goal.offset_bounds-h-next_halfedge
offset_bounds-h-next_halfedge c = omega (arith, next_in c.args.file.now.triangles c.args.e c.next_halfedge.ensures c.requires.inside, c.args.file.now.few)

pub slice_copy_out-h : goal.slice_copy_out-h
slice_copy_out-h c = omega (arith, next_in c.args.file.now.triangles c.args.e c.next_halfedge.ensures c.requires.inside, c.requires.room)

pub returns-clause-ends : goal.returns-clause-ends
returns-clause-ends c =
    let s = c.args.file.now.bytes.now in
    let next = next_in c.args.file.now.triangles c.args.e c.next_halfedge.ensures c.requires.inside in
    let v = point_of s (next_halfedge c.args.e) in
    let start : get_or c.args.h.now (c.next_halfedge.result * halfedge_stride) (pos 0) ≡ pos v = c.requires.started c.next_halfedge.result next ∙ ap (λ e. pos (point_of s e)) c.next_halfedge.ensures in
    let small : v < 2 ^ 31 = omega (arith, next, c.next_halfedge.ensures, c.args.file.now.few, number_within s (next_halfedge c.args.e)) in
    ends_next s c.args.e c.args.h.now c.requires.ended (omega (arith, c.requires.inside, c.requires.room)) (signed_again v start small) (signed c.args.e (omega (arith, c.requires.inside, c.args.file.now.few)))
