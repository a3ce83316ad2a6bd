-- `sharpen::list_edges` meets its contract: the lists, the number of entries and the tally are those of the halfedges so far. Assumes nothing.
use Rattle.std.proofs.Common.{◌≡◌}
use Rattle.common.specs.Count.{count_below}
use Rattle.mesh.specs.Mesh.{as_halfedges}
use Rattle.sharpen.specs.Entries.{entries_in, list_edges}
use Rattle.sharpen.specs.Turn.{listed_by}
use Rattle.sharpen.specs.declared.edge.Rule.TheVariants.{Clean}
use Rattle.sharpen.proofs.list_edges.Given as goal

abbrev pub invariant-loop-e : goal.invariant-loop-e
invariant-loop-e l =
    (entries_in l.entries l.smoothness l.listed.entries ≡ list_edges (as_halfedges l.lists.h.now) (listed_by l.lists.rule l.lists) l.lists.smooth (entries_in l.initial.entries l.initial.smoothness 0) l.e)
    × (l.listed.tally ≡ count_below (listed_by Clean l.lists) l.e)
