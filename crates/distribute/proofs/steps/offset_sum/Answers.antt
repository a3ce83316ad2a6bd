-- `steps::offset_sum` meets its contract: the sum is the fold over the angles passed.
use Rattle.std.proofs.Common.{rules}
use mathlib.Core.Path.{◌≡◌, sym}
use lib.Ieee.{nan}
use Rattle.std.specs.Iterator.Adapters.{zip_first, zip_second}
use Rattle.std.specs.Slice.Iter.{iter_rest}
use Rattle.std.proofs.lemmas.List.{length_push}
use Rattle.std.proofs.lemmas.Slice.Zip.{zip_turn}
use Rattle.common.proofs.Fold.{fold_none, fold_next}
use Rattle.distribute.specs.Steps.FloatSteps.{add_offset}
use Rattle.distribute.proofs.steps.offset_sum.Goals as goal

pub loop-current-init : goal.loop-current-init
loop-current-init c = sym (fold_none _ _)

pub loop-current-preserved : goal.loop-current-preserved
unfolding add_offset
loop-current-preserved c =
    let l = c.loop-current in
    let a = c.args.angles.now in
    let start = c.into_iter-current-iterator.result in
    let first : iter_rest (zip_first start) ≡ a.current.now = search rules in
    let second : iter_rest (zip_second start) ≡ a.desired.now = search rules in
    let t = zip_turn a.current.now a.desired.now l.yielded start l.current-iterator c.next.new.self c.next.result first second l.yielded_by _ c.in-Some.is c.next.ensures.steps in
    rw (length_push l.yielded (c.in-Some.current, c.in-Some.desired), fold_next, ← l.invariant, c.wrap-sum.ensures, t.2 nan, t.3 nan)
