-- `distribute::inner::spread_tangents` meets its contract: before each turn, what is left of the pass gives the whole.
use Rattle.distribute.proofs.Pass.{pass_done}
use Rattle.distribute.proofs.inner.spread_tangents.Goals as goal

pub returns-clause-report : goal.returns-clause-report
returns-clause-report c = pass_done _ c.loop-start-test.false c.loop-start.invariant.2
