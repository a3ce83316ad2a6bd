-- `walks::first_walk` meets its contract: the invariant is `FirstGoing`, and the measure the steps that are left.
use mathlib.Core.Path.{sym, ap, ◌∙◌}
use mathlib.Core.List.{[]}
use native.Mathlib.Omega.{arith}
use Rattle.mesh.specs.Mesh.{as_halfedges}
use Rattle.distribute.proofs.SpreadLaws.Loops.{first_below}
use Rattle.distribute.proofs.SpreadLaws.Bodies.{first_going, first_room, first_next, first_less, first_over}
use Rattle.distribute.specs.Steps.FloatSteps.{begin}
use Rattle.distribute.proofs.StepsLaws.Angles.{begin_directions}
use Rattle.distribute.proofs.WalksLaws.Lawful.{laws}
use Rattle.distribute.proofs.walks.first_walk.Goals as goal

pub loop-lists-init : goal.loop-lists-init
loop-lists-init c =
    let p = c.requires in
    let lists = c.args.lists.now in
    first_going (laws lists) p.start_lt_n.0 p.start_lt_n.1
    (c.begin-g.ensures.result_value _ _ ∙ ap (begin (as_halfedges lists.h.now) lists.pos.now c.args.start) c.tangent_at-v.ensures) c.begin-g.ensures.count_value

pub overflow_add-looked : goal.overflow_add-looked
overflow_add-looked c =
    omega (arith, first_room (laws c.args.lists.now) c.loop-lists.invariant)

pub gather_at-g-requires : goal.gather_at-g-requires
gather_at-g-requires c =
    let p = c.requires in
    let lists = c.args.lists.now in
    let inv = c.loop-lists.invariant in
    let room = (first_room (laws lists) inv).0 in
    record {
      below = first_below (laws lists) inv.at c.next_around-here.ensures;
      current_in = omega arith;
      desired_in = omega arith;
    }

pub invariant_of-walk-clause-first_is : goal.invariant_of-walk-clause-first_is
invariant_of-walk-clause-first_is c =
    let lists = c.args.lists.now in
    begin_directions (as_halfedges lists.h.now) lists.pos.now c.args.t.now [] [] c.args.start c.begin-g.result (rw c.tangent_at-v.ensures at (c.begin-g.ensures.result_value [] []))

pub is_start-requires : goal.is_start-requires
is_start-requires c =
    let lists = c.args.lists.now in
    let below = first_below (laws lists) c.loop-lists.invariant.at c.next_around-here.ensures in
    (omega arith, omega arith)

pub loop-lists-smaller : goal.loop-lists-smaller
loop-lists-smaller c =
    first_less (laws c.args.lists.now) c.loop-lists.invariant c.next_around-here.ensures c.gather_at-g.ensures.result_after c.gather_at-g.ensures.count_value (sym c.is_start.ensures ∙ c.if-is_start.false)

pub loop-lists-preserved : goal.loop-lists-preserved
loop-lists-preserved c =
    let g = c.gather_at-g in
    first_next (laws c.args.lists.now) c.loop-lists.invariant c.next_around-here.ensures g.ensures.result_after g.ensures.count_value (sym c.is_start.ensures ∙ c.if-is_start.false)

pub returns : goal.returns
returns c =
    let g = c.gather_at-g in
    let over = first_over (laws c.args.lists.now) c.loop-lists.invariant c.next_around-here.ensures g.ensures.result_after g.ensures.count_value (sym c.is_start.ensures ∙ c.if-is_start.true) in
    record { result_after = over.found; looked_bound = (over.few, over.room) }
