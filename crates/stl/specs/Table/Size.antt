-- The sizes of a table, which are the constants of src/table.rt. Only contracts inside the reading of STL cite them.
use Rattle.std.specs.Prelude.{ℕ}
use Rattle.stl.specs.declared.table.TheConstants.{BLOCK, ROOTS, SLOTS}

-- the most places of a block
abbrev pub block_size : ℕ
block_size = BLOCK

-- the root slots, and all slots
abbrev pub roots : ℕ
roots = ROOTS

abbrev pub slots : ℕ
slots = SLOTS
