-- `smoothing::faces::add_flat_face` meets its contract: each way is what the tests pick. Assumes nothing.
use mathlib.Core.Path.{sym, ◌∙◌}
use Rattle.smoothing.specs.Faces.{add_flat_face}
use Rattle.smoothing.proofs.Codes.{face_none, face_one, face_more, face_again}
use Rattle.smoothing.proofs.faces.add_flat_face.Goals as goal

pub returns-then-code-eq0 : goal.returns-then-code-eq0
unfolding add_flat_face
returns-then-code-eq0 c =
    rw (c.if-code-eq0.true, face_none) (face_one _)

pub returns-then-same_face : goal.returns-then-same_face
returns-then-same_face c =
    sym (face_again _ _ _ c.if-code-eq0.false ∙ simp (← c.same_face.ensures, c.if-same_face.true))

pub returns : goal.returns
returns c =
    sym (face_again _ _ _ c.if-code-eq0.false ∙ simp (← c.same_face.ensures, c.if-same_face.false, face_more))
