-- `smoothing::faces::flat_faces` meets its contract. The invariant: the list is the fold over the triangles passed. Assumes nothing.
use Prim.Native.Nat.{◌/◌}
use native.Mathlib.Omega.{arith}
use mathlib.Core.Path.{◌≡◌, sym, ◌∙◌}
use lib.ListN.{length}
use Rattle.common.proofs.Fold.{fold_none, fold_turn}
use Rattle.mesh.specs.Mesh.{as_halfedges}
use Rattle.smoothing.proofs.Flat.{flat_filled}
use Rattle.smoothing.proofs.faces.flat_faces.Goals as goal

pub loop-t-init : goal.loop-t-init
loop-t-init c =
    sym (fold_none _ _)

pub loop-t-preserved : goal.loop-t-preserved
loop-t-preserved c =
    let l = c.loop-t in
    fold_turn _ _ _ _ l.t l.invariant c.mark_flat.ensures

pub returns : goal.returns
returns c =
    let a = c.args in
    let l = c.loop-t in
    let zeros = c.fill.ensures.after (λ y e. e) in
    let n = c.fill.ensures.len in
    let t : l.t ≡ length a.flat.now / 3 = omega arith in
    l.invariant ∙ rw (t, zeros) (flat_filled (as_halfedges a.h.now) a.refs.now (length a.flat.now) c.requires)
