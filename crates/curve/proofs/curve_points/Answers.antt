-- `curve::curve_points` meets its contract: the parameters of a count that fits are what the clause says, whatever the room. Assumes nothing.
use Rattle.curve.proofs.Parameters.{parameters_fit}
use Rattle.curve.proofs.curve_points.Goals as goal

pub returns-in_default-clause-parameters : goal.returns-in_default-clause-parameters
returns-in_default-clause-parameters c = parameters_fit c.args.count

pub returns-clause-parameters : goal.returns-clause-parameters
returns-clause-parameters c = parameters_fit c.args.count
