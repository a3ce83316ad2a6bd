use Rattle.stl.proofs.PointsLaws.Marks.{marked_none, marked_set}
use Rattle.stl.proofs.points.mark.Goals as goal

pub returns-then-k-block : goal.returns-then-k-block
returns-then-k-block c =
    let r = c.requires in
    marked_set c.args.block.now c.args.j c.args.first.now r.2 r.3 c.find-k.result (rw c.key_at-key.ensures at c.find-k.ensures) c.if-k-block.true r.1

pub returns-else-k-block : goal.returns-else-k-block
returns-else-k-block c =
    let r = c.requires in
    marked_none c.args.block.now c.args.j c.args.first.now r.2 r.3 c.find-k.result (rw c.key_at-key.ensures at c.find-k.ensures) c.if-k-block.false
