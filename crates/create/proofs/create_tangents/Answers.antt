-- `create::create_tangents` meets its contract. Assumes nothing.
use mathlib.Core.Path.{refl}
use Rattle.mesh.specs.Mesh.{as_halfedges}
use Rattle.std.proofs.Common.{rules}
use Rattle.create_shared.proofs.Answered.{values_of}
use Rattle.create.specs.Sharp.Entries.{entries_of}
use Rattle.create.proofs.Accepted.{Asked, asked, accepted_lists, entries_in, written, made}
use Rattle.create.proofs.create_tangents.Goals as goal
use Rattle.create.proofs.create_tangents.Goals.{After-check_entries-checked}

asked_of : (c : After-check_entries-checked) → let a = c.args in Asked (as_halfedges a.h.now) a.pos.now a.normals.now a.face_normals.now a.refs.now a.entries.now a.smoothness.now a.t.now a.fixed.now a.flat.now a.smooth.now a.desired.now a.at.now a.link.now a.n a.p (entries_of a.entries.now a.smoothness.now) c.check_entries-checked.result
asked_of c = asked refl refl (λ l. refl) c.check_mesh_lists-mesh_lists.ensures c.check_entries-checked.ensures.answer

pub entry_smoothness-requires : goal.entry_smoothness-requires
entry_smoothness-requires c =
    let w = asked_of (goal.at.entry_smoothness-requires c).After-check_entries-checked in
    ((accepted_lists w c.in-Ok.is).smoothness, entries_in w c.in-Ok.is)

pub returns-in_default-clause-answer : goal.returns-in_default-clause-answer
returns-in_default-clause-answer c = rw (asked_of (goal.at.returns-in_default-clause-answer c).After-check_entries-checked).is at c.refused.ensures.answer _

pub returns-in_default-clause-values : goal.returns-in_default-clause-values
returns-in_default-clause-values c = values_of _ _ (returns-in_default-clause-answer c)

pub invariant_of-mesh : goal.invariant_of-mesh
invariant_of-mesh c =
    let w = accepted_lists (asked_of (goal.at.invariant_of-mesh c).After-check_entries-checked) c.in-Ok.is in
    let m = w.mesh_lists in
    record { sound = w.sound; whole = m.halfedges; positions = m.positions; point_normals = m.normals; triangle_normals = m.face_normals w.sound.triangles }

pub make_tangents-directionless-requires : goal.make_tangents-directionless-requires
make_tangents-directionless-requires c = written (asked_of (goal.at.make_tangents-directionless-requires c).After-check_entries-checked) c.in-Ok.is c.entry_smoothness.auto.smooth

-- what an accepted call answers and leaves
pub returns : goal.returns
returns c =
    let m = c.make_tangents-directionless in
    let r = made (asked_of (goal.at.returns c).After-check_entries-checked) c.args.old c.in-Ok.is c.entry_smoothness.ensures m.ensures.tangents m.ensures.directionless in
    record {
      answer = r.0;
      tangents = r.1;
      fixed = search rules;
      flat = search rules;
      smooth = search rules;
      desired = search rules;
      at = search rules;
      link = search rules;
      bound = r.2;
      values = values_of _ _ r.0;
    }
