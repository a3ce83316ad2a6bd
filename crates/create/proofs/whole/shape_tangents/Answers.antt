-- `create::whole::shape_tangents` meets its contract: four calls in a row. Assumes nothing.
use Prim.Native.Nat.{◌+◌}
use native.Mathlib.Omega.{arith}
use mathlib.Core.Path.{◌≡◌, ap, ◌∙◌}
use Rattle.mesh.specs.Mesh.{as_halfedges}
use Rattle.smoothing.specs.Edges.{is_inside_quad}
use Rattle.smoothing.specs.Faces.{is_flat}
use Rattle.smoothing.proofs.Flat.{flags_same}
use Rattle.create.specs.Whole.Lent.{pairs_of}
use Rattle.create.specs.Whole.Core.{directionless_with}
use Rattle.create.proofs.CreasesLaws.Lent.{linked_tests}
use Rattle.create.proofs.WholeLaws.Shape.{shaped_is, counted_is, with_within}
use Rattle.create.proofs.whole.shape_tangents.Goals as goal
use Rattle.create.proofs.whole.shape_tangents.Goals.{After-shape_verts-shaped}

counted : (c : After-shape_verts-shaped) → let a = c.args in let m = a.mesh in c.first_tangents-first.result + c.shape_verts-shaped.result ≡ directionless_with (as_halfedges m.h.now) m.pos.now m.refs.now (pairs_of (as_halfedges m.h.now) m.refs.now a.smooth.now m.n) a.t.now a.old m.n m.p
counted c =
    let a = c.args in
    let m = a.mesh in
    let f = c.first_tangents-first in
    let g = c.find_creases in
    counted_is (as_halfedges m.h.now) m.refs.now m.pos.now a.t.now a.old a.smooth.now m.n _ _ _ _ _ _
    (ap is_flat f.ensures.flat ∙ flags_same (as_halfedges m.h.now) m.refs.now m.n) (rw (f.auto.flat ∙ c.requires.flat) at g.ensures.0) f.ensures.directionless c.shape_verts-shaped.ensures.directionless (g.auto.at ∙ f.auto.at ∙ c.requires.points)

pub overflow_add-result : goal.overflow_add-result
overflow_add-result c =
    let a = c.args in
    let m = a.mesh in
    omega (arith, c.requires.tangents, counted (goal.at.overflow_add-result c).After-shape_verts-shaped, with_within m.sound m.refs.now a.smooth.now m.pos.now a.t.now a.old)

pub returns-clause-tangents : goal.returns-clause-tangents
returns-clause-tangents c =
    let a = c.args in
    let m = a.mesh in
    let f = c.first_tangents-first in
    let g = c.find_creases in
    c.shape_verts-shaped.ensures.tangents
    ∙ shaped_is (as_halfedges m.h.now) m.refs.now m.pos.now m.normals.now m.face_normals.now (is_inside_quad (as_halfedges m.h.now) m.refs.now a.t.now a.old) a.smooth.now m.n _ _ _ _ _ _ _
    (ap is_flat f.ensures.flat ∙ flags_same (as_halfedges m.h.now) m.refs.now m.n) (rw (f.auto.flat ∙ c.requires.flat) at g.ensures.0) f.ensures.tangents (c.fill.ensures.after (λ y e. e)) c.requires.fixed (g.auto.at ∙ f.auto.at ∙ c.requires.points)

pub returns-clause-directionless : goal.returns-clause-directionless
returns-clause-directionless c =
    counted (goal.at.returns-clause-directionless c).After-shape_verts-shaped

pub invariant_of-creases-clause-linked : goal.invariant_of-creases-clause-linked
invariant_of-creases-clause-linked c =
    linked_tests _ _ _ _ _ (rw (c.first_tangents-first.auto.flat ∙ c.requires.flat) at c.find_creases.ensures.1)
