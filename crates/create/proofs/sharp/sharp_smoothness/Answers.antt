-- `create::sharp::sharp_smoothness` meets its contract. Assumes nothing.
use Rattle.create.proofs.SharpLaws.Adding.{all_added}
use Rattle.std.proofs.Common.{◌∙◌, arith}
use Rattle.create.proofs.sharp.sharp_smoothness.Goals as goal

pub returns : goal.returns
returns c =
    let l = c.loop-entry in
    l.invariant ∙ all_added _ c.args.sharp.now l.entry-index _ (omega arith) (c.fill.ensures.after (λ y e. e))
