use Rattle.stl.proofs.TableLaws.Tables.{indexed_zeros}
use Rattle.stl.proofs.points.firsts.Goals as goal

pub enter_all-requires : goal.enter_all-requires
enter_all-requires c = (indexed_zeros c.args.block.now, c.requires)

pub mark_all-requires : goal.mark_all-requires
mark_all-requires c = (c.enter_all.ensures.table, rw c.enter_all.auto.first c.requires, c.enter_all.ensures.first)
