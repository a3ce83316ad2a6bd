-- `create::initial::put_each` meets its contract. The invariant: the list is the fold over the halfedges passed, and holds the lent weights from there on; and it is counted which of those passed have no direction. Assumes nothing.
use Rattle.create.proofs.InitialLaws.Counts.{firsts_within}
use Rattle.create.proofs.InitialLaws.First.{first_turn, first_ahead, first_counts}
use Rattle.create.specs.Initial.Lent.{inside_quad, counts_first}
use Rattle.common.proofs.Count.{one_at_most}
use native.Mathlib.Omega.{arith}
use mathlib.Core.Bool.{true}
use Rattle.mesh.specs.Mesh.{as_halfedges}
use Rattle.create.proofs.initial.put_each.Goals as goal

pub overflow_add-directionless : goal.overflow_add-directionless
overflow_add-directionless c =
    let a = c.args in
    let m = a.lists.now.mesh in
    let l = c.loop-e in
    omega (
      arith,
      l.invariant.directionless,
      firsts_within (as_halfedges m.h.now) m.pos.now (inside_quad m a.t.now true) l.e,
      c.put_first_tangent-directionless.ensures.directionless,
      one_at_most (counts_first m l.t true l.e),
    )

pub loop-e-preserved : goal.loop-e-preserved
loop-e-preserved c =
    let a = c.args in
    let l = c.loop-e in
    let p = c.put_first_tangent-directionless in
    record {
      tangents = first_turn a.lists.now true a.t.now l.t p.new.t l.e l.invariant.weights p.ensures.tangents l.invariant.tangents;
      weights = first_ahead a.lists.now true a.t.now l.t p.new.t l.e l.invariant.weights p.ensures.tangents;
      directionless = first_counts a.lists.now.mesh true a.t.now l.t l.e l.directionless p.result l.invariant.weights l.invariant.directionless p.ensures.directionless;
    }
