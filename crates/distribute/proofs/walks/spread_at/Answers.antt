-- `walks::spread_at` meets its contract.
use native.Mathlib.Omega.{arith}
use mathlib.Core.Path.{sym, ap, ◌∙◌}
use lib.Seq.{length-take-le}
use Rattle.distribute.proofs.StepsLaws.Angles.{turns_none_of}
use Rattle.distribute.proofs.WalksLaws.Lawful.{angle_count}
use Rattle.distribute.proofs.WalksLaws.Starts.{at_first, at_both}
use Rattle.distribute.proofs.walks.spread_at.Goals as goal

pub returns-then-turns_none-clause-gives : goal.returns-then-turns_none-clause-gives
returns-then-turns_none-clause-gives c =
    let f = c.first_walk-ended in
    at_first _ _ _ _ (sym c.is_start.ensures ∙ c.if-not-is_start.false) _ f.ensures.result_after
    (turns_none_of _ _ _ (omega arith) c.turns_none.ensures c.if-turns_none.true)

pub second_walk-turned-requires : goal.second_walk-turned-requires
second_walk-turned-requires c =
    let p = c.requires.written in
    let a = c.args in
    let f = c.first_walk-ended in
    let q = c.plan-by.ensures.count_value in
    record {
      tangents = p.tangents;
      current_in = omega arith;
      desired_in = omega arith;
      start_below = c.requires.start_lt_n.0;
      start_is = sym c.is_start.ensures ∙ c.if-not-is_start.false;
      looked = a.counts.looked;
      angles = q ∙ sym (length-take-le _ _ (omega arith)) ∙ ap (λ x. angle_count x.gathered) f.ensures.result_after;
    }

pub returns-clause-gives : goal.returns-clause-gives
returns-clause-gives c =
    let f = c.first_walk-ended in
    at_both _ _ _ _ (sym c.is_start.ensures ∙ c.if-not-is_start.false) _ f.ensures.result_after
    (turns_none_of _ _ _ (omega arith) c.turns_none.ensures c.if-turns_none.false) c.plan-by.ensures.result_value
    (c.second_walk-turned.ensures.gives (record { looked = f.result.looked; turned = c.args.counts.turned }))
