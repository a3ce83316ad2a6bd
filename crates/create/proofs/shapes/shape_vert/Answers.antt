-- `create::shapes::shape_vert` meets its contract: three calls in a row. Assumes nothing.
use Rattle.smoothing.specs.Faces.{is_flat}
use Rattle.create_shared.specs.Makings.{tangents_of}
use Rattle.create.proofs.ShapesLaws.Lent.{crease_in, crease_apart}
use Rattle.create.proofs.CreasesLaws.Points.{first_is}
use mathlib.Core.Path.{◌∙◌}
use Rattle.create.proofs.shapes.shape_vert.Goals as goal

pub shape_crease-requires : goal.shape_crease-requires
shape_crease-requires c =
    let k = c.args.lists.now.creases in (
      crease_in k.lists.sound k.smooth.now c.args.v _ _ (c.first_crease-first.ensures ∙ first_is k c.args.v c.requires.0) c.crease_at-crease.ensures,
      c.requires.1,
      c.requires.2,
    )

pub returns-clause-tangents : goal.returns-clause-tangents
returns-clause-tangents c =
    let k = c.crease_at-crease in
    let a = c.args in
    let l = a.lists.now in
    (rw (c.first_crease-first.ensures ∙ first_is l.creases a.v c.requires.0) at c.shape_crease.ensures.tangents)
    ∙ crease_apart l.creases.lists.sound l.pos.now (is_flat l.flat.now) l.creases.smooth.now a.v (tangents_of a.t.now a.fixed.now) k.result k.ensures
