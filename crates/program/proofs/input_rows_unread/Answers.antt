-- `program::input_rows_unread` meets its contract. Assumes nothing.
use Rattle.program.proofs.Rows.{input_rows_unread}
use Rattle.program.proofs.input_rows_unread.Goals as goal

pub returns : goal.returns
returns c = input_rows_unread
