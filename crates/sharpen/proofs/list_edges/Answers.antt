-- `sharpen::list_edges` meets its contract: the lists, the number of entries and the tally are those of the halfedges so far. Assumes nothing.
use Rattle.std.proofs.Common.{ap, ◌∙◌, arith}
use Rattle.common.proofs.Count.{count_within}
use Rattle.sharpen.specs.declared.edge.Rule.TheVariants.{Clean}
use Rattle.mesh.specs.Mesh.{as_halfedges}
use Rattle.sharpen.specs.Entries.{Entries}
use Rattle.sharpen.specs.Turn.{listed_by}
use Rattle.sharpen.proofs.Entries.{entries_twice}
use Rattle.sharpen.proofs.Room.{edge_fits}
use Rattle.sharpen.proofs.list_edges.Goals as goal

pub list_edge-listed-requires-clause-fits : goal.list_edge-listed-requires-clause-fits
list_edge-listed-requires-clause-fits c =
    let l = c.loop-e in
    let a = c.args in
    let lists = a.lists.now in
    edge_fits lists l.e c.loop-e-test.true
    (ap (λ (x : Entries). x.count) l.invariant.0 ∙ entries_twice a.entries.now a.smoothness.now (as_halfedges lists.h.now) (listed_by lists.rule lists) lists.smooth l.e)
    (l.auto.entries ∙ c.requires.0)
    (l.auto.smoothness ∙ c.requires.1)

pub list_edge-listed-requires-clause-below : goal.list_edge-listed-requires-clause-below
list_edge-listed-requires-clause-below c =
    let l = c.loop-e in
    omega (arith, count_within (listed_by Clean c.args.lists.now) l.e, l.invariant.1, c.loop-e-test.true)
