-- `lines::render` meets its contract: each arm stores the lines of its case. Assumes nothing.
use Rattle.program.specs.Lines.Text.{ascii}
use Rattle.program.specs.Lines.Lines.{lines_of}
use Rattle.program.proofs.LinesLaws.Lengths.{everything, as_number}
use Rattle.program.proofs.lines.render.Goals as goal

pub returns-in-Tangents : goal.returns-in-Tangents
unfolding lines_of ascii
returns-in-Tangents c = rw (← everything _ _ _ _ _ c.halfedges_in-n.ensures c.has_room.ensures c.if-not-has_room.false _ c.in-Tangents.is) c.put_tangents.ensures

pub returns-in-Spread : goal.returns-in-Spread
unfolding lines_of ascii
returns-in-Spread c = rw (← everything _ _ _ _ _ c.halfedges_in-n.ensures c.has_room.ensures c.if-not-has_room.false _ c.in-Spread.is) c.put_spread.ensures

pub returns-in-Valid : goal.returns-in-Valid
unfolding lines_of ascii
returns-in-Valid c =
    rw (← everything _ _ _ _ _ c.halfedges_in-n.ensures c.has_room.ensures c.if-not-has_room.false _ c.in-Valid.is) (rw (as_number c.in-Valid.valid) at c.put_number_line.ensures)

pub returns-in-Refused : goal.returns-in-Refused
unfolding lines_of ascii
returns-in-Refused c = rw (← everything _ _ _ _ _ c.halfedges_in-n.ensures c.has_room.ensures c.if-not-has_room.false _ c.in-Refused.is) c.put_numbers_line.ensures
