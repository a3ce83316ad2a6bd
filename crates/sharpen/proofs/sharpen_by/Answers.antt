-- `sharpen::sharpen_by` meets its contract: what the loop lists is the answer's, and holds the entries of the edges. Assumes nothing.
use Rattle.std.proofs.Common.{arith}
use Rattle.std.proofs.lemmas.Grind.{common_steps}
use Rattle.sharpen.proofs.Outcome.{outcome_accepted}
use Rattle.sharpen.proofs.sharpen_by.Goals as goal

pub returns : goal.returns
returns c = record {
  outcome =
      outcome_accepted _ _ _ _ _ _ _ _ _ (grind (arith, common_steps))
      (rw c.min_radians-limit.ensures at c.list_edges.ensures.entries)
      (rw c.min_radians-limit.ensures at c.list_edges.ensures.tally);
}
