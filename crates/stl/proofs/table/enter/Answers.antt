use native.Mathlib.Omega.{arith}
use Rattle.stl.proofs.TableLaws.Tables.{ended, tag_put, tag_new, find_at, find_none, enter_found, enter_in, enter_new}
use Rattle.stl.proofs.table.enter.Goals as goal

pub offset_bounds-table-slot : goal.offset_bounds-table-slot
offset_bounds-table-slot c = omega (arith, enter_in c.requires.1 c.requires.0 c.in-Err.slot (ended c.args.block.now c.args.table.now c.key_at-key.ensures c.in-Err.is c.look.ensures), c.requires.1.size)

pub bounds-table-slot : goal.bounds-table-slot
bounds-table-slot c = enter_in c.requires.1 c.requires.0 c.in-Err.slot (ended c.args.block.now c.args.table.now c.key_at-key.ensures c.in-Err.is c.look.ensures)

pub returns-in-Ok-clause-lowest : goal.returns-in-Ok-clause-lowest
returns-in-Ok-clause-lowest c = find_at c.requires.1 _ c.in-Ok.k (ended c.args.block.now c.args.table.now c.key_at-key.ensures c.in-Ok.is c.look.ensures)

pub returns-in-Ok-clause-table : goal.returns-in-Ok-clause-table
returns-in-Ok-clause-table c = enter_found (tag_put c.requires.1 c.tag.result) c.requires.0 (tag_new c.requires.1 c.requires.0 c.key_at-key.ensures c.root.ensures c.tag.ensures) c.in-Ok.k (ended c.args.block.now c.args.table.now c.key_at-key.ensures c.in-Ok.is c.look.ensures)

pub returns-in-Err-clause-lowest : goal.returns-in-Err-clause-lowest
returns-in-Err-clause-lowest c = find_none c.requires.1 _ c.in-Err.slot (ended c.args.block.now c.args.table.now c.key_at-key.ensures c.in-Err.is c.look.ensures)

pub returns-in-Err-clause-table : goal.returns-in-Err-clause-table
returns-in-Err-clause-table c = enter_new (tag_put c.requires.1 c.tag.result) c.requires.0 c.in-Err.slot (ended c.args.block.now c.args.table.now c.key_at-key.ensures c.in-Err.is c.look.ensures) (tag_new c.requires.1 c.requires.0 c.key_at-key.ensures c.root.ensures c.tag.ensures)
