-- `create_from_normals::create_tangents_from_normals` meets its contract: the questions, and then the core. Assumes nothing.
use mathlib.Core.Path.{◌≡◌}
use Rattle.std.proofs.Common.{Ok}
use Rattle.create_from_normals.proofs.WholeLaws.Core.{from_normals_within}
use Rattle.create_from_normals.proofs.WeightsLaws.Weights.{weights}
use Rattle.create_from_normals.proofs.Accepted.{Lists, lists_of}
use Rattle.create_from_normals.proofs.OldNormals.{old_tangents, old_count}
use Rattle.create_from_normals.proofs.create_tangents_from_normals.Goals as goal
use Rattle.create_from_normals.proofs.create_tangents_from_normals.Goals.{After-check_normals-checked}

-- what the questions establish of the lists, where they accept them
lists : (c : After-check_normals-checked) → c.check_normals-checked.result ≡ Ok tt → let a = c.args in Lists a.h.now a.pos.now a.normals.now a.face_normals.now a.rows.now a.t.now a.fixed.now a.inside.now a.current.now a.desired.now a.first.now a.n a.p
lists c e =
    let a = c.args in
    lists_of a.h.now a.pos.now a.normals.now a.face_normals.now a.refs.now a.rows.now a.t.now a.fixed.now a.inside.now a.current.now a.desired.now a.first.now a.n a.p
    (rw (← c.lists_fit-lists.ensures, ← c.scratch_fits-scratch.ensures, ← c.check_normals-checked.ensures) e)

pub invariant_of-mesh : goal.invariant_of-mesh
invariant_of-mesh c =
    let w = lists (goal.at.invariant_of-mesh c).After-check_normals-checked c.in-Ok.is in
    record { sound = w.sound; whole = w.whole; positions = w.positions; point_normals = w.point_normals; triangle_normals = w.triangle_normals }

pub invariant_of-read : goal.invariant_of-read
invariant_of-read c =
    let w = lists (goal.at.invariant_of-read c).After-check_normals-checked c.in-Ok.is in
    record { halfedge_normals = w.halfedge_normals }

pub make_tangents-directionless-requires : goal.make_tangents-directionless-requires
make_tangents-directionless-requires c =
    (lists (goal.at.make_tangents-directionless-requires c).After-check_normals-checked c.in-Ok.is).written

pub returns-clause-bound : goal.returns-clause-bound
returns-clause-bound c =
    let w = lists (goal.at.returns-clause-bound c).After-check_normals-checked c.in-Ok.is in
    rw c.make_tangents-directionless.ensures.directionless (from_normals_within w.sound _ _ _ _ _ _ _ _)

pub returns-clause-weights : goal.returns-clause-weights
returns-clause-weights c =
    let w = lists (goal.at.returns-clause-weights c).After-check_normals-checked c.in-Ok.is in
    rw c.make_tangents-directionless.ensures.tangents (weights _ _ _ _ _ _ _ _ _ _ w.sound)

pub returns-clause-old_tangents : goal.returns-clause-old_tangents
returns-clause-old_tangents c =
    let w = lists (goal.at.returns-clause-old_tangents c).After-check_normals-checked c.in-Ok.is in
    rw c.make_tangents-directionless.ensures.tangents (old_tangents _ w.sound _ _ _ _ _ _ _ _)

pub returns-clause-old_count : goal.returns-clause-old_count
returns-clause-old_count c =
    let w = lists (goal.at.returns-clause-old_count c).After-check_normals-checked c.in-Ok.is in
    rw c.make_tangents-directionless.ensures.directionless (old_count _ w.sound _ _ _ _ _ _ _ _)
