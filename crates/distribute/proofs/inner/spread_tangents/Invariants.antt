-- `distribute::inner::spread_tangents` meets its contract: before each turn, what is left of the pass gives the whole.
use Prim.Native.Nat.{◌*◌, ◌≤◌}
use Rattle.mesh.specs.Mesh.{max_halfedges}
use Rattle.distribute.specs.Walks.Walks.{steps_of}
use Rattle.distribute.proofs.Pass.{PassAt}
use Rattle.distribute.proofs.inner.spread_tangents.Given as goal

abbrev pub invariant-loop-start : goal.invariant-loop-start
invariant-loop-start l =
    (l.counts.looked ≤ l.start * max_halfedges) × (l.counts.turned ≤ l.start * max_halfedges)
    × PassAt (steps_of l.lists) l.initial.t l.start l.t l.counts
