-- For a caller of `render`: where there is room, the whole output is written. Assumes nothing.
use Prim.Native.Nat.{ℕ, ◌+◌, ◌*◌, ◌≤◌}
use mathlib.Core.Path.{◌≡◌}
use mathlib.Core.List.{List}
use borrow.Author.Tests.{le-leb}
use lib.ListN.{length}
use lib.Ieee.{Float}
use Rattle.program.specs.Lines.Lines.{lines_of, halfedges_in, line_bytes, has_room, rendered}
use Rattle.program.specs.declared.lines.Output.{Output}

pub whole : (output : Output) (T : List Float) (room : ℕ) → 4 * halfedges_in output ≤ length T → line_bytes * (halfedges_in output + 2) ≤ room → rendered output T room ≡ lines_of output T
unfolding rendered has_room
whole output T room h l = rw (le-leb (4 * halfedges_in output) (length T) h, le-leb (line_bytes * (halfedges_in output + 2)) room l)
