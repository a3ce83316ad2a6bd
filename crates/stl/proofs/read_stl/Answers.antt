-- `read_stl` meets its contract: what it fills in is a mesh, and question 32 is refused exactly where it has to be. Assumes nothing.
use Rattle.std.proofs.Common.{sym, ap, ◌∙◌, rules, Ok}
use Rattle.stl.specs.Stl.{counts_of}
use Rattle.stl.proofs.Sound.{mesh_of}
use Rattle.stl.proofs.Pairing.{exactly_of, exactly_then}
use Rattle.stl.proofs.read_stl.Goals as goal

pub returns-clause-mesh : goal.returns-clause-mesh
returns-clause-mesh c =
    let long = rw c.length_fits.ensures at (sym c.ask_at-sized.ensures ∙ c.in-Ok.is) in
    let fits = rw c.has_room.ensures at (sym c.check_file-checked.ensures ∙ c.in-Ok-checked.is) in
    let lists = c.write_lists.ensures in
    rw (lists.counts, lists.pos, lists.h, lists.face_normals) (mesh_of _ _ _ _ long fits)

pub returns-in_default-clause-paired : goal.returns-in_default-clause-paired
returns-in_default-clause-paired c =
    exactly_of c.args.file.now c.args.pos.now c.args.h.now c.args.face_normals.now (search rules)

pub returns-in_default-checked-clause-paired : goal.returns-in_default-checked-clause-paired
returns-in_default-checked-clause-paired c =
    let long = rw c.length_fits.ensures at (sym c.ask_at-sized.ensures ∙ c.in-Ok.is) in
    let fits = rw c.has_room.ensures at (sym c.check_file-checked.ensures) in
    exactly_then c.args.file.now c.args.pos.now c.args.h.now c.args.face_normals.now long fits (c.refused-in_default-checked.ensures.answer (counts_of c.args.file.now))

pub returns-clause-paired : goal.returns-clause-paired
returns-clause-paired c =
    let long = rw c.length_fits.ensures at (sym c.ask_at-sized.ensures ∙ c.in-Ok.is) in
    let fits = rw c.has_room.ensures at (sym c.check_file-checked.ensures ∙ c.in-Ok-checked.is) in
    exactly_then c.args.file.now c.args.pos.now c.args.h.now c.args.face_normals.now long fits (ap Ok c.write_lists.ensures.counts)
