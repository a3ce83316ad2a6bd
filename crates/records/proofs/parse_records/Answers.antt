-- `records::parse_records` meets its contract: an unknown operation is refused. Assumes nothing.
use Rattle.std.proofs.Common.{rules, sym, ◌∙◌}
use Rattle.records.specs.Records.{check_records}
use Rattle.records.proofs.Parse.{unknown}
use Rattle.records.proofs.parse_records.Goals as goal

pub returns-in_err-operation : goal.returns-in_err-operation
unfolding check_records
returns-in_err-operation c =
    rw (← c.check_record.ensures, c.in_ok-check_record.was, unknown _ _ (sym c.try_from.ensures ∙ c.in_err-operation.was)) (search rules)
