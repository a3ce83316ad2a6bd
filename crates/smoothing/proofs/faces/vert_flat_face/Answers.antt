-- `smoothing::faces::vert_flat_face` meets its contract. The invariant: each place holds the fold over the halfedges passed. Assumes nothing.
use native.Mathlib.Omega.{arith}
use mathlib.Core.Path.{sym, ap, ◌∙◌}
use lib.ListN.{length}
use Rattle.common.proofs.Fold.{fold_none, fold_turn}
use Rattle.smoothing.specs.Lent.{face_of}
use Rattle.smoothing.specs.declared.faces.FlatFace.TheVariants.{NoFace}
use Rattle.common.proofs.Filled.{filled_at}
use Rattle.smoothing.proofs.Codes.{face_none}
use Rattle.smoothing.proofs.faces.vert_flat_face.Goals as goal

pub loop-e-init : goal.loop-e-init
loop-e-init c =
    λ v l. ap face_of (filled_at c.fill.new.self (length c.args.at.now) 0 0 v (c.fill.ensures.after (λ y e. e)) l) ∙ face_none ∙ sym (fold_none _ _)

pub loop-e-preserved : goal.loop-e-preserved
loop-e-preserved c =
    let l = c.loop-e in
    λ v h. fold_turn _ NoFace _ _ l.e (l.invariant v h) (c.vert_face_at.ensures v (omega arith))
