-- `preview::preview_all` meets its contract: before each turn, the bytes and counts are those of the pass so far.
use mathlib.Core.Path.{◌≡◌}
use Prim.Native.Nat.{◌*◌, ◌≤◌}
use mathlib.Core.List.{List}
use lib.ListN.{length}
use lib.Ieee.{Float}
use Rattle.mesh.specs.Mesh.{max_halfedges}
use Rattle.distribute.proofs.PreviewLaws.Lawful.{laws_at}
use Rattle.distribute.proofs.PreviewLaws.Pass.{ShownAt}
use Rattle.distribute.proofs.preview.preview_all.Given as goal

abbrev pub invariant-loop-start : goal.invariant-loop-start
invariant-loop-start l =
    (l.counts.looked ≤ l.start * max_halfedges) × (l.counts.turned ≤ l.start * max_halfedges)
    × ((P N : List Float) (whole : length l.t ≡ l.lists.n * 4) → ShownAt (laws_at l.lists P N) l.t whole l.start l.bytes l.counts)
