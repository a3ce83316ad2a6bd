-- `smoothing::faces::flat_face` meets its contract: each way is what the tests pick. Assumes nothing.
use mathlib.Core.Path.{sym, ◌∙◌}
use borrow.Author.Tests.{eq-eqb, ne_eqb}
use Rattle.smoothing.proofs.Codes.{face_none, face_some}
use Rattle.smoothing.proofs.faces.flat_face.Goals as goal

pub returns-then-code-eq0 : goal.returns-then-code-eq0
returns-then-code-eq0 c =
    rw c.if-code-eq0.true (sym face_none)

pub returns-then-code-eq0-2 : goal.returns-then-code-eq0-2
returns-then-code-eq0-2 c =
    sym (face_some _ c.if-code-eq0.false ∙ simp (eq-eqb _ _ c.if-code-eq0-2.true))

pub returns : goal.returns
returns c =
    sym (face_some _ c.if-code-eq0.false ∙ simp (ne_eqb _ _ c.if-code-eq0-2.false))
