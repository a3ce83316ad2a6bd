-- `linearize::inner::linearize_all` meets its contract: after e turns the list is the fold over the halfedges below e.
use Rattle.std.proofs.Common.{◌≡◌}
use Rattle.common.specs.Fold.{fold_to}
use Rattle.mesh.specs.Mesh.{as_halfedges}
use Rattle.linearize.specs.Linearize.{linearize_at}
use Rattle.linearize.proofs.inner.linearize_all.Given as goal

abbrev pub invariant-loop-e : goal.invariant-loop-e
invariant-loop-e l = l.t ≡ fold_to (linearize_at (as_halfedges l.h) l.pos) l.initial.t l.e
