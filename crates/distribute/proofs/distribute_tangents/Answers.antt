-- `distribute::distribute_tangents` meets its contract. The order rule follows from the tangents and the counts; what is said of the walks is a law of the lists.
use Rattle.distribute.proofs.Claims.{guards_never_fire, angles_in_lists}
use Rattle.distribute.proofs.Order.{any_order}
use Rattle.distribute.proofs.distribute_tangents.Goals as goal

pub returns-clause-order : goal.returns-clause-order
returns-clause-order c = any_order _ _ _ _ _ _ _ _ _ c.spread_tangents-counts.ensures.report

pub returns-clause-guards : goal.returns-clause-guards
returns-clause-guards c = guards_never_fire _ _ _ _ _ _ _ _ _

pub returns-clause-angles : goal.returns-clause-angles
returns-clause-angles c = angles_in_lists _ _ _ _ _ _ _ _ _
