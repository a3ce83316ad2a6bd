-- `smoothing::faces::neighbor_tri` meets its contract. Assumes nothing.
use Prim.Native.Nat.{◌+◌, ◌*◌, ◌≤◌}
use native.Mathlib.Omega.{arith}
use lib.ListN.{length}
use Rattle.mesh.specs.Mesh.{halfedge_stride}
use Rattle.mesh.proofs.Inside.{inside_list}
use Rattle.smoothing.proofs.faces.neighbor_tri.Goals as goal

in_list : (c : goal.Start) → (c.args.t * 3 + c.args.j) * halfedge_stride + halfedge_stride ≤ length c.args.h.now
in_list c = inside_list c.args.h.now (c.args.t * 3 + c.args.j) c.requires

pub overflow_mul-t : goal.overflow_mul-t
overflow_mul-t c =
    omega (arith, in_list c)

pub overflow_add-t : goal.overflow_add-t
overflow_add-t c =
    omega (arith, in_list c)
