-- `create::shapes::shape_through` meets its contract: the lists hold what `align_tangents` writes. Assumes nothing.
use native.Mathlib.Omega.{arith}
use Rattle.create.proofs.ShapesLaws.Lent.{making_in}
use Rattle.create.proofs.shapes.shape_through.Goals as goal

pub align_tangents-directionless-requires : goal.align_tangents-directionless-requires
align_tangents-directionless-requires c =
    let r = c.requires in (omega arith, omega arith, making_in c.args.lists.now _ _ r.2 r.3)
