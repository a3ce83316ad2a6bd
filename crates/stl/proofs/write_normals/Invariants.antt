-- `write_normals` meets its contract: after i turns the first i places are filled. Assumes nothing.
use Rattle.std.proofs.Common.{◌≡◌}
use Rattle.little_endian.specs.Filled.{filled}
use Rattle.stl.specs.File.File.{normal_item}
use Rattle.stl.proofs.write_normals.Given as goal

abbrev pub invariant-loop-i : goal.invariant-loop-i
invariant-loop-i l = l.face_normals ≡ filled (normal_item l.file.bytes.now) l.i l.initial.face_normals
