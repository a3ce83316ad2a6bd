-- `mesh::is_forward` meets its contract.
use Prim.Native.Nat.{◌+◌, ◌*◌}
use native.Mathlib.Omega.{arith}
use mathlib.Core.Path.{◌≡◌}
use lib.ListN.{get_or}
use lib.IntN.{pos}
use Rattle.mesh.specs.Mesh.{halfedge_stride, number_at, field, as_halfedges}
use Rattle.mesh.proofs.Signed.{read, index_order}
use Rattle.mesh.proofs.is_forward.Goals as goal

-- the two numbers, neither negative, stand in the order of the indices
pub returns : goal.returns
unfolding as_halfedges field number_at
returns c =
    let e = c.args.e in
    let list = c.args.h.now in
    let first : e * halfedge_stride + 0 ≡ e * halfedge_stride = omega arith in
    rw (first, read (get_or list (e * halfedge_stride) (pos 0)) (omega arith), read (get_or list (e * halfedge_stride + 1) (pos 0)) (omega arith))
    (rw first at (index_order (number_at list e halfedge_stride 0) (number_at list e halfedge_stride 1) c.requires.start_index c.requires.end_index))
