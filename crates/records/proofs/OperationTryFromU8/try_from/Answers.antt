-- `Operation::try_from` meets its contract. Assumes nothing.
use Rattle.std.proofs.Common.{arith}
use Rattle.std.proofs.lemmas.Bool.Decides.{nat_tests}
use Rattle.records.specs.Records.{operation_of_number, operation_answer}
use Rattle.records.proofs.OperationTryFromU8.try_from.Goals as goal

pub returns-in-1 : goal.returns-in-1
unfolding operation_answer operation_of_number
returns-in-1 c = rw c.in-1.is

pub returns-in-2 : goal.returns-in-2
unfolding operation_answer operation_of_number
returns-in-2 c = rw c.in-2.is

pub returns-in-3 : goal.returns-in-3
unfolding operation_answer operation_of_number
returns-in-3 c = rw c.in-3.is

pub returns-in_default : goal.returns-in_default
unfolding operation_answer operation_of_number
returns-in_default c = grind (arith, nat_tests)
