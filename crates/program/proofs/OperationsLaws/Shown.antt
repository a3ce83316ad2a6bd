-- The lines of an output are read off the front of its tangents, and of the scratch lists only the lengths are asked about. Assumes nothing.
use Prim.Native.Nat.{ℕ, zero, suc, ◌+◌, ◌*◌, ◌<◌, ◌≤◌}
use native.Mathlib.Omega.{arith}
use mathlib.Core.Path.{◌≡◌, refl, ◌∙◌}
use mathlib.Core.List.{List, ◌++◌}
use lib.ListN.{length, take, drop, replicate, get_or-append, length-replicate}
use lib.Seq.{length-take-le}
use Rattle.std.proofs.lemmas.Grind.{common_steps}
use lib.Ieee.{Float, nan}
use Rattle.float.specs.Ops.{zero as 0f}
use Rattle.program.specs.Lines.Lines.{bits_field, tangent_line, tangent_lines, tangents_lines, lines_of, halfedges_in, printed}
use Rattle.program.specs.declared.lines.Output.{Output}
use Rattle.program.specs.declared.lines.Output.TheVariants.{Tangents, Spread, Valid, Refused}
use Rattle.std.specs.Prelude.{Result}
use Rattle.mesh.specs.Mesh.{Halfedges}
use Rattle.questions.specs.declared.Refusal.{Refusal}
use Rattle.distribute.specs.Distribute.{check_lists}
use Rattle.program.specs.Operations.Operations.{Shows}

-- ---- the front of the tangents

module _ (T rest : List Float) where
  field_front : (i : ℕ) → i < length T → bits_field (T ++ rest) i ≡ bits_field T i
  unfolding bits_field
  field_front i h = rw (get_or-append T rest nan i h)

  line_front : (e : ℕ) → 4 * suc e ≤ length T → tangent_line (T ++ rest) e ≡ tangent_line T e
  unfolding tangent_line
  line_front e h =
      rw (field_front (4 * e) (omega arith), field_front (4 * e + 1) (omega arith), field_front (4 * e + 2) (omega arith), field_front (4 * e + 3) (omega arith))

  lines_front : (n : ℕ) → 4 * n ≤ length T → tangent_lines (T ++ rest) n ≡ tangent_lines T n
  unfolding tangent_lines
  lines_front zero h = refl
  lines_front (suc e) h = rw (lines_front e (omega arith), line_front e h)

  output_front : (o : Output) → 4 * halfedges_in o ≤ length T → lines_of o (T ++ rest) ≡ lines_of o T
  unfolding lines_of tangents_lines
  output_front (Tangents n) h = rw (lines_front n h)
  output_front (Spread n looked turned) h = rw (lines_front n h)
  output_front (Valid valid) h = refl
  output_front (Refused number place) h = refl

-- what shows the lines over the front that was lent shows them over the whole list
pub shows_front : (lines : List ℕ) (n : ℕ) (o : Result Output Refusal) (T lent : List Float) → 4 * n ≤ length lent → length T ≡ length (take (4 * n) lent) →
    Shows lines n o T → Shows lines n o (T ++ drop (4 * n) lent)
shows_front lines n o T lent h l s =
    let e = length-take-le (4 * n) lent h in
    record { shown = output_front T (drop (4 * n) lent) (printed o) (omega (arith, s.halfedges_few)) ∙ s.shown; halfedges_few = s.halfedges_few }

-- ---- the scratch lists

pub scratch_lengths : (H : Halfedges) (P N : List Float) (F : List ℕ) (T C D : List Float) (n p : ℕ) → length C ≡ n → length D ≡ n →
    check_lists H P N F T C D n p ≡ check_lists H P N F T (replicate n 0f) (replicate n 0f) n p
unfolding check_lists
scratch_lengths H P N F T C D n p c d = rw (length-replicate, c, d)

pub none_left : (n : ℕ) (lent : List Float) → length lent ≡ n → replicate n 0f ++ drop n lent ≡ replicate n 0f
none_left n lent h = grind (arith, common_steps)
