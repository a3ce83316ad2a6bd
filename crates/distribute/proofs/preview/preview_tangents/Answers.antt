-- `preview::preview_tangents` meets its contract. The answer is that of spreading, and the order rule follows from the bytes and the counts.
use Rattle.std.proofs.Common.{Ok}
use native.Mathlib.Omega.{arith}
use Rattle.std.proofs.lemmas.Grind.{common_steps}
use Rattle.distribute.specs.Preview.Preview.{check_lists}
use Rattle.distribute.proofs.PreviewLaws.Order.{any_order, as_spreading}
use Rattle.distribute.proofs.preview.preview_tangents.Goals as goal

pub returns-in_default-clause-spreading : goal.returns-in_default-clause-spreading
unfolding check_lists
returns-in_default-clause-spreading c = as_spreading _ _ _ _ _ _ _ _ (grind (arith, common_steps))

pub returns-clause-spreading : goal.returns-clause-spreading
unfolding check_lists
returns-clause-spreading c = as_spreading _ _ _ _ _ _ _ _ {r = Ok c.preview_all-counts.result} (grind (arith, common_steps))

pub returns-clause-order : goal.returns-clause-order
returns-clause-order c = any_order _ _ _ _ _ _ _ _ (c.preview_all-counts.ensures _ _)
