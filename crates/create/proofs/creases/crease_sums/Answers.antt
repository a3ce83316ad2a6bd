-- `create::creases::crease_sums` meets its contract. The invariant: the sums over what is left of the list, from those so far, are the sums over all. Assumes nothing.
use native.Mathlib.Omega.{arith}
use mathlib.Core.Path.{sym}
use mathlib.Core.List.{foldl-map}
use Rattle.create_shared.proofs.Verts.{vert_halfedge_within}
use Rattle.mesh.specs.Mesh.{as_halfedges}
use Rattle.create.specs.Creases.Creases.{add_sides, sums_of}
use Rattle.create.specs.Creases.Linked.{creases_at}
use Rattle.create.specs.Creases.Lists.{pair_by}
use Rattle.create.proofs.CreasesLaws.Lent.{linked_all}
use Rattle.create.proofs.CreasesLaws.Creases.{creases_few, creases_below}
use Rattle.create.proofs.CreasesLaws.Linked.{walk_start, walk_step, walk_less}
use Rattle.create.proofs.creases.crease_sums.Goals as goal

pub loop-e-init : goal.loop-e-init
unfolding sums_of
loop-e-init c =
    let k = c.args.creases.now in
    let v = c.args.v in
    let s = k.lists.sound in
    let all = creases_at (as_halfedges k.h.now) k.smooth.now k.n v in
    walk_start k.link.now (vert_halfedge_within (as_halfedges k.h.now) k.n v) _ _ _ _ all (linked_all k v c.requires) (creases_few s k.smooth.now v) (creases_below s k.smooth.now v)
    (sym (foldl-map (pair_by k) add_sides all _))

pub loop-e-smaller : goal.loop-e-smaller
loop-e-smaller c =
    let k = c.args.creases.now in
    walk_less k.link.now (vert_halfedge_within (as_halfedges k.h.now) k.n c.args.v) _ _ _ _ _ c.loop-e.invariant (omega (arith, c.in-Some.ensures))

pub loop-e-preserved : goal.loop-e-preserved
loop-e-preserved c =
    let k = c.args.creases.now in
    walk_step k.link.now (vert_halfedge_within (as_halfedges k.h.now) k.n c.args.v) _ _ _ _ _ c.loop-e.invariant (omega (arith, c.in-Some.ensures)) _ c.add_sides-sums.ensures
