-- `preview::preview_all` meets its contract: before each turn, the bytes and counts are those of the pass so far.
use native.Mathlib.Omega.{arith}
use Rattle.distribute.proofs.PreviewLaws.Lawful.{laws_at}
use Rattle.distribute.proofs.PreviewLaws.Pass.{shown_next, shown_end}
use Rattle.distribute.proofs.preview.preview_all.Goals as goal

pub loop-start-preserved : goal.loop-start-preserved
loop-start-preserved c =
    let lists = c.args.lists.now in
    let inv = c.loop-start.invariant in
    let s = c.preview_at-counts in
    (omega arith, omega arith, λ P N whole. shown_next (laws_at lists P N) _ whole c.loop-start-test.true (inv.2 P N whole) (s.ensures.previews P N))

pub returns : goal.returns
returns c P N = shown_end (laws_at c.args.lists.now P N) _ c.requires.0 c.loop-start-test.false (c.loop-start.invariant.2 P N c.requires.0)
