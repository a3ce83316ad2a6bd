-- `create_from_normals::walks::finish_vert` meets its contract: what its calls need, and a bound of what it counts. Assumes nothing.
use native.Mathlib.Omega.{arith}
use mathlib.Core.Path.{sym, subst, ◌∙◌}
use Rattle.create_from_normals.specs.Steps.Steps.{FaceEdgesIn}
use Rattle.create_from_normals.proofs.StepsLaws.Counts.{face_edges_two}
use Rattle.create_from_normals.specs.Walks.Lists.{mesh_of, normal_of}
use Rattle.create_from_normals.proofs.WalksLaws.Lent.{making_in}
use Rattle.create_from_normals.proofs.WalksLaws.Bound.{fill_missing_few}
use Rattle.create_from_normals.proofs.walks.finish_vert.Goals as goal

pub align_face_edges-aligned-requires : goal.align_face_edges-aligned-requires
align_face_edges-aligned-requires c =
    let a = c.args in
    let p = c.requires in
    (subst (λ n. FaceEdgesIn n a.state.face_edges) (sym p.4) p.2.face_edges, making_in a.lists.now (c.fill_missing-filled.auto.t ∙ p.3) p.4)

pub overflow_add-result : goal.overflow_add-result
overflow_add-result c =
    let a = c.args in
    let p = c.requires in
    let k = a.lists.now in
    omega (
      arith,
      c.fill_missing-filled.ensures.directionless,
      fill_missing_few k.mesh.sound k.mesh.pos.now k.mesh.normals.now k.mesh.face_normals.now (normal_of k) a.state.last_normal a.t.now a.state.start_halfedge p.2.start_halfedge,
      c.align_face_edges-aligned.ensures.directionless,
      face_edges_two (mesh_of k) k.mesh.pos.now a.state.face_edges,
      p.3,
    )
