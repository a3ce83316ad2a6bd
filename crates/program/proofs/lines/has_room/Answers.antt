-- `lines::has_room` meets its contract. Assumes nothing.
use Rattle.program.proofs.LinesLaws.Lengths.{few_numbers, no_lines, lines_room}
use Rattle.program.proofs.lines.has_room.Goals as goal

pub returns-then-numbers-n : goal.returns-then-numbers-n
returns-then-numbers-n c =
    few_numbers c.args.n c.args.numbers c.args.room c.if-numbers-n.true

pub returns-then-room-lt2 : goal.returns-then-room-lt2
returns-then-room-lt2 c =
    no_lines c.args.n c.args.numbers c.args.room c.if-numbers-n.false c.if-room-lt2.true

pub returns : goal.returns
returns c =
    lines_room c.args.n c.args.numbers c.args.room c.if-numbers-n.false c.if-room-lt2.false
