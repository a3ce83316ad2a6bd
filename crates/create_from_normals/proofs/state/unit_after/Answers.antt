-- `create_from_normals::state::unit_after` meets its contract: where the normals are the same, so are their unit vectors. Assumes nothing.
use mathlib.Core.Path.{sym, ap, ◌∙◌}
use Rattle.smoothing.specs.Directions.{safe_normalize}
use Rattle.create_from_normals.proofs.StateLaws.Carried.{same_normal_lem}
use Rattle.create_from_normals.proofs.state.unit_after.Goals as goal

pub returns-then-same_normal : goal.returns-then-same_normal
returns-then-same_normal c =
    let n = c.well_formed.0.1.1 in
    let b = c.well_formed.1.0.1.1 in
    c.requires ∙ ap safe_normalize (sym (same_normal_lem c.args.normal c.args.before (record { x = n.0.1; y = n.1.0.1; z = n.1.1.0.1 }) (record { x = b.0.1; y = b.1.0.1; z = b.1.1.0.1 }) (sym c.same_normal.ensures ∙ c.if-same_normal.true)))
