-- At a halfedge of the loop the lists hold what the test for a quad reads. Assumes nothing.
use Prim.Native.Nat.{ℕ, ◌<◌}
use Rattle.smoothing.specs.Edges.{InsideQuadIn}
use Rattle.smoothing.proofs.Edges.{inside_quad_in}
use Rattle.create_from_normals.specs.declared.whole.quad_lists.QuadLists.{QuadLists}
use Rattle.create_from_normals.specs.Whole.Flags.{halfedges_of}

pub quad_at : (l : QuadLists) (e : ℕ) → e < l.mesh.n → InsideQuadIn (halfedges_of l) l.t.now e
quad_at l e h = inside_quad_in _ _ _ _ l.mesh.sound l.mesh.whole l.tangents e h
