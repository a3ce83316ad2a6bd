-- `preview::walks::second_walk` meets its contract: the invariant is `Showing`, and the measure the steps that are left.
use mathlib.Core.Path.{sym, ◌∙◌}
use mathlib.Core.List.{[]}
use native.Mathlib.Omega.{arith}
use lib.Ieee.{nan}
use Rattle.mesh.proofs.Inside.{inside}
use Rattle.distribute.proofs.SpreadLaws.Loops.{second_below}
use Rattle.distribute.proofs.SpreadLaws.Bodies.{second_less}
use Rattle.distribute.specs.Steps.FloatSteps.{Plan}
use Rattle.distribute.specs.declared.walks.Counts.{Counts}
use Rattle.distribute.proofs.PreviewLaws.Lawful.{laws_at}
use Rattle.distribute.proofs.PreviewLaws.Second.{showing_begin, showing_leaves, showing_next, showing_over, showing_few, showing_within}
use Rattle.distribute.proofs.preview.walks.second_walk.Goals as goal

-- any plan and any counts do for what does not depend on them
abbrev none : Counts
none = record { looked = 0; turned = 0 }

abbrev any : Plan
any = record { current_angle = []; desired_angle = []; scale = nan; offset = nan; axis = record { x = nan; y = nan; z = nan }; index = 0 }

pub walk-init : goal.walk-init
walk-init c P N by k places =
    let w = c.args.walk.now in
    showing_begin (laws_at c.args.walk.now.lists.now P N) _ _ _ by k places w.start_below w.start_is w.tangents

pub next_around-here-requires : goal.next_around-here-requires
next_around-here-requires c =
    let lists = c.args.walk.now.lists.now in
    inside lists.sound lists.whole _ (c.walk.invariant [] [] any none []).going.at.to_fixed.below

pub leaves-requires : goal.leaves-requires
leaves-requires c =
    let lists = c.args.walk.now.lists.now in
    omega (arith, second_below (laws_at lists [] []) (c.walk.invariant [] [] any none []).going.at c.next_around-here.ensures)

pub show_unmarked-i-requires : goal.show_unmarked-i-requires
show_unmarked-i-requires c =
    let w = c.args.walk.now in
    let lists = c.args.walk.now.lists.now in
    let inv = c.walk.invariant [] [] any none [] in
    let below = second_below (laws_at lists [] []) inv.going.at c.next_around-here.ensures in (
      omega arith,
      omega arith,
      omega (arith, showing_within (laws_at lists [] []) _ _ _ any none [] w.start_below w.start_is inv, lists.sound.few_halfedges),
    )

pub walk-preserved : goal.walk-preserved
walk-preserved c P N by k places =
    let u = c.show_unmarked-i in
    showing_next (laws_at c.args.walk.now.lists.now P N) _ _ _ by k places (c.walk.invariant P N by k places) c.next_around-here.ensures u.ensures.value u.ensures.bytes_after (sym c.leaves.ensures ∙ c.if-leaves.false) c.if-here-walk.false

pub returns-then-leaves-clause-previews : goal.returns-then-leaves-clause-previews
returns-then-leaves-clause-previews c P N by k places =
    showing_leaves (laws_at c.args.walk.now.lists.now P N) _ _ _ by k places (c.walk.invariant P N by k places) c.next_around-here.ensures (sym c.leaves.ensures ∙ c.if-leaves.true)

pub returns-then-leaves-clause-few : goal.returns-then-leaves-clause-few
returns-then-leaves-clause-few c =
    let w = c.args.walk.now in
    showing_within (laws_at c.args.walk.now.lists.now [] []) _ _ _ any none [] w.start_below w.start_is (c.walk.invariant [] [] any none [])

pub returns-then-here-walk-clause-previews : goal.returns-then-here-walk-clause-previews
returns-then-here-walk-clause-previews c P N by k places =
    let u = c.show_unmarked-i in
    showing_over (laws_at c.args.walk.now.lists.now P N) _ _ _ by k places (c.walk.invariant P N by k places) c.next_around-here.ensures u.ensures.value u.ensures.bytes_after c.if-here-walk.true

pub returns-then-here-walk-clause-few : goal.returns-then-here-walk-clause-few
returns-then-here-walk-clause-few c =
    let w = c.args.walk.now in
    let u = c.show_unmarked-i in
    showing_few (laws_at c.args.walk.now.lists.now [] []) _ _ _ any none [] (c.walk.invariant [] [] any none []) c.next_around-here.ensures u.ensures.value u.ensures.bytes_after w.start_below w.start_is

pub walk-smaller : goal.walk-smaller
walk-smaller c =
    second_less (laws_at c.args.walk.now.lists.now [] []) (c.walk.invariant [] [] any none []).going c.next_around-here.ensures (sym c.leaves.ensures ∙ c.if-leaves.false) c.if-here-walk.false
