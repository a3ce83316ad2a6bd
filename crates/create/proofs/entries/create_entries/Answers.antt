-- `create::entries::create_entries` meets its contract. Assumes nothing.
use mathlib.Core.Path.{sym}
use Rattle.mesh.specs.Mesh.{as_halfedges}
use Rattle.std.proofs.Common.{rules}
use Rattle.std.proofs.lemmas.List.{length-map}
use Rattle.create_shared.proofs.Answered.{values_of}
use Rattle.create.specs.Sharp.Entries.{halfedges_of, smoothness_of}
use Rattle.create.proofs.SharpLaws.Flat.{entries_back}
use Rattle.create.proofs.Accepted.{Asked, asked, accepted_lists, entries_in, written, made}
use Rattle.create.proofs.entries.create_entries.Goals as goal
use Rattle.create.proofs.entries.create_entries.Goals.{After-check_sharp-checked}

asked_of : (c : After-check_sharp-checked) → let a = c.args in Asked (as_halfedges a.h.now) a.pos.now a.normals.now a.face_normals.now a.refs.now (halfedges_of a.sharp.now) (smoothness_of a.sharp.now) a.t.now a.fixed.now a.flat.now a.smooth.now a.desired.now a.at.now a.link.now a.n a.p a.sharp.now c.check_sharp-checked.result
asked_of c =
    let E = c.args.sharp.now in
    asked (sym (length-map E (λ e. e.halfedge))) (sym (length-map E (λ e. e.smoothness))) (λ l. entries_back E) c.check_mesh_lists-mesh_lists.ensures c.check_sharp-checked.ensures

pub sharp_smoothness-requires : goal.sharp_smoothness-requires
sharp_smoothness-requires c = entries_in (asked_of (goal.at.sharp_smoothness-requires c).After-check_sharp-checked) c.in-Ok.is

pub returns-in_default-clause-answer : goal.returns-in_default-clause-answer
returns-in_default-clause-answer c = rw (asked_of (goal.at.returns-in_default-clause-answer c).After-check_sharp-checked).is at c.refused.ensures.answer _

pub returns-in_default-clause-values : goal.returns-in_default-clause-values
returns-in_default-clause-values c = values_of _ _ (returns-in_default-clause-answer c)

pub invariant_of-mesh : goal.invariant_of-mesh
invariant_of-mesh c =
    let w = accepted_lists (asked_of (goal.at.invariant_of-mesh c).After-check_sharp-checked) c.in-Ok.is in
    let m = w.mesh_lists in
    record { sound = w.sound; whole = m.halfedges; positions = m.positions; point_normals = m.normals; triangle_normals = m.face_normals w.sound.triangles }

pub make_tangents-directionless-requires : goal.make_tangents-directionless-requires
make_tangents-directionless-requires c = written (asked_of (goal.at.make_tangents-directionless-requires c).After-check_sharp-checked) c.in-Ok.is c.sharp_smoothness.auto.smooth

-- what an accepted call answers and leaves
pub returns : goal.returns
returns c =
    let m = c.make_tangents-directionless in
    let r = made (asked_of (goal.at.returns c).After-check_sharp-checked) c.args.old c.in-Ok.is c.sharp_smoothness.ensures m.ensures.tangents m.ensures.directionless in
    record {
      answer = r.0;
      tangents = r.1;
      fixed = search rules;
      flat = search rules;
      smooth = search rules;
      desired = search rules;
      at = search rules;
      link = search rules;
      bound = r.2;
      values = values_of _ _ r.0;
    }
