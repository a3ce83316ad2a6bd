-- `create::initial::put_edges` meets its contract. The invariant: the list is the fold over the edges passed, and the count the sum over them, which at the end are those over the halfedges. Assumes nothing.
use Prim.Native.Nat.{◌+◌}
use native.Mathlib.Omega.{arith}
use mathlib.Core.Path.{◌≡◌, ◌∙◌}
use Rattle.create.proofs.InitialLaws.First.{edge_counts, edges_count, edges_room}
use Rattle.create.proofs.initial.put_edges.Goals as goal

pub overflow_add-directionless : goal.overflow_add-directionless
overflow_add-directionless c =
    let a = c.args in
    let l = c.loop-e in
    let p = c.put_edge-directionless in
    omega (
      arith,
      edge_counts a.lists.now.mesh a.t.now l.t l.e l.directionless p.result l.invariant.directionless p.ensures.directionless,
      edges_room a.lists.now a.t.now (l.e + 1) (omega arith),
    )

pub returns-clause-directionless : goal.returns-clause-directionless
returns-clause-directionless c =
    let l = c.loop-e in
    let q : l.e ≡ c.args.lists.now.mesh.n = omega arith in
    (rw q at l.invariant.directionless) ∙ edges_count c.args.lists.now c.args.t.now
