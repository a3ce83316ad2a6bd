-- `create::creases::link_edge` meets its contract: no crease, or both of its halfedges are put in front. Assumes nothing.
use mathlib.Core.Path.{refl, sym, ◌∙◌}
use native.Mathlib.Omega.{arith}
use lib.ListN.{length}
use Rattle.mesh.specs.Mesh.{as_halfedges}
use Rattle.create_shared.specs.Verts.{vert_halfedge}
use Rattle.create.proofs.CreasesLaws.Linked.{edge_passed, edge_linked}
use Rattle.create.proofs.creases.link_edge.Goals as goal

pub returns-then-not-is_crease : goal.returns-then-not-is_crease
returns-then-not-is_crease c =
    let a = c.args in
    edge_passed c.requires.1.sound a.smooth.now a.f c.requires.0 (vert_halfedge (as_halfedges a.h.now) (length a.smooth.now)) a.at.now a.link.now
    (sym c.is_crease.ensures ∙ c.if-not-is_crease.true)
    c.requires.2

pub returns : goal.returns
returns c =
    λ v q.
    let l = c.link_halfedge in
    let m = c.link_halfedge-2 in
    let i = c.is_crease in
    let a = c.args in
    edge_linked c.requires.1.sound a.smooth.now a.f c.requires.0 (vert_halfedge (as_halfedges a.h.now) (length a.smooth.now))
    a.at.now a.link.now l.new.at l.new.link m.new.at m.new.link
    c.paired_halfedge-k.result refl c.requires.1.links (sym i.ensures ∙ c.if-not-is_crease.false) c.paired_halfedge-k.ensures
    l.ensures.0 (rw c.requires.1.links at l.ensures.1) m.ensures.0 (rw (l.auto.link ∙ c.requires.1.links) at m.ensures.1) c.requires.2 v (omega (arith, q, l.auto.at, m.auto.at))
