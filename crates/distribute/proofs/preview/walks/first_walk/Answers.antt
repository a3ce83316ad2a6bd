-- `preview::walks::first_walk` meets its contract: the invariant is `Summing`, and the measure the steps that are left.
use mathlib.Core.Path.{sym, ◌∙◌}
use mathlib.Core.List.{List, []}
use lib.Ieee.{Float}
use native.Mathlib.Omega.{arith}
use Rattle.mesh.proofs.Inside.{inside}
use Rattle.distribute.proofs.SpreadLaws.Loops.{first_below}
use Rattle.distribute.proofs.SpreadLaws.Bodies.{first_room}
use Rattle.distribute.proofs.PreviewLaws.Lawful.{laws_at}
use Rattle.distribute.proofs.PreviewLaws.First.{summing_begin, summing_next, summing_less, summing_over}
use Rattle.distribute.proofs.preview.walks.first_walk.Goals as goal

pub loop-init : goal.loop-init
loop-init c P N =
    let w = c.args.walk.now in
    summing_begin w.lists.now P N w.t.now _ _ w.start_below w.start_is _ w.first_is

pub next_around-here-requires : goal.next_around-here-requires
next_around-here-requires c =
    let lists = c.args.walk.now.lists.now in
    inside lists.sound lists.whole _ (c.loop.invariant [] []).going.at.walking.below

pub overflow_add-looked : goal.overflow_add-looked
overflow_add-looked c = omega (arith, first_room (laws_at c.args.walk.now.lists.now [] []) (c.loop.invariant [] []).going)

pub add_tangent-summed-requires : goal.add_tangent-summed-requires
add_tangent-summed-requires c =
    let lists = c.args.walk.now.lists.now in
    let inv = c.loop.invariant [] [] in (
      omega (arith, first_below (laws_at lists [] []) inv.going.at c.next_around-here.ensures),
      omega (arith, first_room (laws_at lists [] []) inv.going, lists.sound.few_halfedges),
    )

pub is_start-requires : goal.is_start-requires
is_start-requires c =
    let lists = c.args.walk.now.lists.now in
    let below = first_below (laws_at lists [] []) (c.loop.invariant [] []).going.at c.next_around-here.ensures in
    (omega arith, omega arith)

pub loop-smaller : goal.loop-smaller
loop-smaller c =
    summing_less c.args.walk.now.lists.now [] [] c.args.walk.now.t.now _ _ (c.loop.invariant [] []) c.next_around-here.ensures c.add_tangent-summed.ensures (sym c.is_start.ensures ∙ c.if-is_start.false)

pub loop-preserved : goal.loop-preserved
loop-preserved c P N =
    summing_next c.args.walk.now.lists.now P N c.args.walk.now.t.now _ _ (c.loop.invariant P N) c.next_around-here.ensures c.add_tangent-summed.ensures (sym c.is_start.ensures ∙ c.if-is_start.false)

pub returns : goal.returns
returns c =
    let over = λ (P N : List Float). summing_over c.args.walk.now.lists.now P N c.args.walk.now.t.now _ _ (c.loop.invariant P N) c.next_around-here.ensures c.add_tangent-summed.ensures (sym c.is_start.ensures ∙ c.if-is_start.true) in
    record { sums = λ P N. ((over P N).0, (over P N).1); looked_bound = (over [] []).2 }
