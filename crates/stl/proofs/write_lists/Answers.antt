-- `write_lists` meets its contract. Assumes nothing.
use Rattle.std.proofs.Common.{arith, pos, ◌∙◌, ◌*◌}
use Rattle.mesh.specs.Mesh.{halfedge_stride}
use Rattle.little_endian.proofs.Filled.{filled_rest}
use Rattle.stl.specs.File.Lists.{halfedge_item}
use Rattle.stl.proofs.Sound.{lists_fit}
use Rattle.stl.proofs.write_lists.Goals as goal

pub write_points-written-requires : goal.write_points-written-requires
write_points-written-requires c = let l = lists_fit _ _ _ _ _ c.args.file.now.counted c.requires in (l.pos_room, l.h_room)

pub write_pairs-requires : goal.write_pairs-requires
write_pairs-requires c =
    let l = lists_fit _ _ _ _ _ c.args.file.now.counted c.requires in
    (l.fits.paired, c.write_points-written.ensures.starts, omega (arith, l.h_room, c.write_points-written.ensures.further.0))

pub write_normals-requires : goal.write_normals-requires
write_normals-requires c = (lists_fit _ _ _ _ _ c.args.file.now.counted c.requires).face_normals_room

pub returns-clause-h : goal.returns-clause-h
returns-clause-h c =
    let item = halfedge_item c.args.file.now.bytes.now in
    let further = c.write_points-written.ensures.further in
    rw c.args.file.now.counted at (c.write_pairs.ensures ∙ filled_rest item (3 * c.args.file.now.triangles * halfedge_stride) _ c.args.h.now (pos 0) further.0 further.1)
