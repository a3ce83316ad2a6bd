use Rattle.stl.proofs.TableLaws.SameKey.{next_in}
use Rattle.stl.proofs.table.key_at.Goals as goal

pub corner_at-requires : goal.corner_at-requires
corner_at-requires c = next_in c.args.file.now.triangles c.args.p c.next_halfedge.ensures c.requires
