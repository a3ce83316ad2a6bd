-- `smoothing::faces::vert_flat_face` meets its contract. The invariant: each place holds the fold over the halfedges passed. Assumes nothing.
use Prim.Native.Nat.{ℕ, ◌<◌}
use mathlib.Core.Path.{◌≡◌}
use lib.ListN.{length, get_or}
use Rattle.common.specs.Fold.{fold_to}
use Rattle.smoothing.specs.Faces.{is_flat, vert_face_at}
use Rattle.smoothing.specs.Lent.{face_of}
use Rattle.smoothing.specs.declared.faces.FlatFace.TheVariants.{NoFace}
use Rattle.mesh.specs.Mesh.{as_halfedges}
use Rattle.smoothing.proofs.faces.vert_flat_face.Given as goal

abbrev pub invariant-loop-e : goal.invariant-loop-e
invariant-loop-e l = (v : ℕ) → v < length l.initial.at → face_of (get_or l.at v 0) ≡ fold_to (vert_face_at (as_halfedges l.h) l.refs (is_flat l.flat) v) NoFace l.e
