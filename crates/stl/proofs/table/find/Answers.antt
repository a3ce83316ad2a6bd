use mathlib.Core.Path.{◌∙◌}
use Rattle.stl.proofs.TableLaws.Tables.{found_or}
use Rattle.stl.proofs.table.find.Goals as goal

pub returns : goal.returns
returns c = c.unwrap_or.ensures ∙ found_or c.requires c.args.key c.look.result c.look.ensures
