-- `create_shared::align_tangents` meets its contract: two calls and two stores. Assumes nothing.
use native.Mathlib.Omega.{arith}
use Rattle.mesh.specs.Mesh.{as_halfedges}
use Rattle.create_shared.proofs.Counts.{directionless_one}
use Rattle.create_shared.proofs.align_tangents.Goals as goal

pub overflow_add-result : goal.overflow_add-result
overflow_add-result c =
    let a = c.args in
    omega (arith, c.put_circular_tangent-one.ensures.directionless, directionless_one (as_halfedges a.h.now) a.pos.now a.first, c.put_circular_tangent-other.ensures.directionless, directionless_one (as_halfedges a.h.now) a.pos.now a.second)
