-- `create_from_normals::walks::normals_verts` meets its contract. The invariant: both lists and the count are the counted fold over the points passed. Assumes nothing.
use Rattle.create_from_normals.specs.Walks.Walks.{normals_verts, normals_verts_directionless}
use Rattle.create_from_normals.proofs.WalksLaws.Counting.{turn}
use Rattle.create_from_normals.proofs.WalksLaws.Bound.{verts_within}
use Rattle.create_from_normals.specs.Steps.Carried.{is_inside}
use Rattle.create_from_normals.specs.Walks.Lists.{normal_of, normals_vert_by, normals_vert_count}
use Rattle.create_shared.specs.Makings.{Tangents, tangents_of}
use Rattle.common.specs.Counted.{Counted, counted}
use Rattle.common.proofs.Fold.{fold_turn}
use Rattle.common.proofs.Counted.{counted_fold_to}
use Prim.Native.Nat.{◌+◌}
use native.Mathlib.Omega.{arith}
use mathlib.Core.Path.{◌≡◌, ap, ◌∙◌}
use Rattle.create_from_normals.proofs.walks.normals_verts.Goals as goal

pub overflow_add-directionless : goal.overflow_add-directionless
unfolding normals_verts_directionless
overflow_add-directionless c =
    let a = c.args in
    let w = a.walks.now in
    let k = w.lists in
    let l = c.loop-v in
    let m = c.normals_vert-directionless.ensures in
    let all = fold_turn _ _ _ _ l.v l.invariant (turn (normals_vert_by w) (normals_vert_count w) l.directionless m.tangents m.directionless) in
    omega (arith, ap (λ (k : Counted Tangents). k.count) all, verts_within k.mesh.sound k.mesh.pos.now k.mesh.normals.now k.mesh.face_normals.now (normal_of k) (is_inside w.inside.now) (l.v + 1) (tangents_of a.t.now a.fixed.now), c.requires.0)

pub returns-clause-tangents : goal.returns-clause-tangents
unfolding normals_verts
returns-clause-tangents c =
    let a = c.args in
    let l = c.loop-v in
    let w = a.walks.now in
    let q : l.v ≡ w.lists.mesh.p = omega arith in
    rw q at (ap (λ (k : Counted Tangents). k.state) l.invariant ∙ counted_fold_to (normals_vert_by w) (normals_vert_count w) (counted (tangents_of a.t.now a.fixed.now) 0) l.v)
