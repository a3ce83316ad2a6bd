-- `create::initial::first_tangents` meets its contract: three calls in a row. Assumes nothing.
use mathlib.Core.Path.{◌≡◌, ap, ◌∙◌}
use Rattle.mesh.specs.Mesh.{as_halfedges}
use Rattle.smoothing.specs.Faces.{is_flat}
use Rattle.smoothing.specs.Lent.{flat_flags}
use Rattle.smoothing.proofs.Flat.{flags_same}
use Rattle.create.proofs.InitialLaws.First.{faces_in, first_is}
use Rattle.create.proofs.initial.first_tangents.Goals as goal

pub invariant_of-lists : goal.invariant_of-lists
invariant_of-lists c =
    let a = c.args in
    let r = c.requires in
    record {
      points = c.vert_flat_face.auto.at ∙ r.2;
      faces = faces_in a.mesh c.flat_faces.new.flat a.at.now c.vert_flat_face.new.at (c.flat_faces.auto.flat ∙ r.1) r.2 c.vert_flat_face.auto.at c.vert_flat_face.ensures;
    }

pub returns-clause-tangents : goal.returns-clause-tangents
returns-clause-tangents c =
    let a = c.args in
    let m = a.mesh in
    let r = c.requires in
    let f = c.flat_faces in
    let H = as_halfedges m.h.now in
    let q : f.new.flat ≡ flat_flags H m.refs.now m.n = f.ensures ∙ ap (flat_flags H m.refs.now) r.1 in
    first_is m f.new.flat a.at.now c.vert_flat_face.new.at (f.auto.flat ∙ r.1) r.2 c.vert_flat_face.auto.at c.vert_flat_face.ensures a.old a.t.now r.0 (ap is_flat q ∙ flags_same H m.refs.now m.n) c.put_first_tangents.ensures.tangents
