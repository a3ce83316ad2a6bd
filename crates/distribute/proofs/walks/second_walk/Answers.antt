-- `walks::second_walk` meets its contract: the invariant is `SecondGoing`, and the measure the steps that are left.
use mathlib.Core.Path.{sym, ◌∙◌}
use mathlib.Core.List.{[]}
use native.Mathlib.Omega.{arith}
use Rattle.mesh.proofs.Inside.{inside}
use Rattle.distribute.proofs.SpreadLaws.Loops.{second_below, index_below}
use Rattle.distribute.specs.declared.walks.Counts.{Counts}
use Rattle.distribute.proofs.WalksLaws.Lawful.{laws, angles_are}
use Rattle.distribute.proofs.WalksLaws.Bodies.{second_going, second_leaves, second_less, second_next, second_over, second_few}
use Rattle.distribute.proofs.walks.second_walk.Goals as goal

abbrev none : Counts
none = record { looked = 0; turned = 0 }

pub walk-init : goal.walk-init
walk-init c =
    let p = c.requires in
    let lists = c.args.lists.now in
    let count = p.angles ∙ angles_are lists.sound lists.pos.now lists.normals.now lists.fixed.now c.args.t.now c.args.start p.looked p.start_below p.start_is in
    λ k places. second_going (laws lists) p.start_below p.start_is p.tangents count k places

pub next_around-here-requires : goal.next_around-here-requires
next_around-here-requires c =
    let lists = c.args.lists.now in
    inside lists.sound lists.whole _ (c.walk.invariant none []).going.at.to_fixed.below

pub leaves-requires : goal.leaves-requires
leaves-requires c =
    omega (arith, second_below (laws c.args.lists.now) (c.walk.invariant none []).going.at c.next_around-here.ensures)

pub turn_unmarked-i-requires : goal.turn_unmarked-i-requires
turn_unmarked-i-requires c =
    let p = c.requires in
    let w = (c.walk.invariant none []).going.at in
    record {
      tangent_in = omega (arith, second_below (laws c.args.lists.now) w c.next_around-here.ensures);
      current_in = p.current_in;
      desired_in = omega arith;
      angle_in = omega arith;
      angle_below = index_below (laws c.args.lists.now) w c.next_around-here.ensures;
    }

pub walk-smaller : goal.walk-smaller
walk-smaller c =
    second_less (laws c.args.lists.now) (c.walk.invariant none []) c.next_around-here.ensures
    (sym c.leaves.ensures ∙ c.if-leaves.false) c.if-here-start.false

pub walk-preserved : goal.walk-preserved
walk-preserved c k places =
    let u = c.turn_unmarked-i in
    second_next (laws c.args.lists.now) (c.walk.invariant k places) c.next_around-here.ensures
    (record { tangents_are = u.ensures.t_after; plan_is = u.ensures.result_after; index_is = u.ensures.value }) (sym c.leaves.ensures ∙ c.if-leaves.false) c.if-here-start.false

pub returns-then-leaves-clause-gives : goal.returns-then-leaves-clause-gives
returns-then-leaves-clause-gives c k places =
    second_leaves (laws c.args.lists.now) (c.walk.invariant k places) c.next_around-here.ensures (sym c.leaves.ensures ∙ c.if-leaves.true)

pub returns-then-leaves-clause-few : goal.returns-then-leaves-clause-few
returns-then-leaves-clause-few c = omega (arith, (c.walk.invariant none []).going.at.index)

pub returns-then-here-start-clause-gives : goal.returns-then-here-start-clause-gives
returns-then-here-start-clause-gives c k places =
    let u = c.turn_unmarked-i in
    second_over (laws c.args.lists.now) (c.walk.invariant k places) c.next_around-here.ensures
    (record { tangents_are = u.ensures.t_after; plan_is = u.ensures.result_after; index_is = u.ensures.value }) c.if-here-start.true

pub returns-then-here-start-clause-few : goal.returns-then-here-start-clause-few
returns-then-here-start-clause-few c =
    let u = c.turn_unmarked-i in
    second_few (laws c.args.lists.now) (c.walk.invariant none []) c.next_around-here.ensures
    (record { tangents_are = u.ensures.t_after; plan_is = u.ensures.result_after; index_is = u.ensures.value })
