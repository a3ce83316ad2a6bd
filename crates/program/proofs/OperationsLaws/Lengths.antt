-- The lines of an operation name no more halfedges than there are, so their length is bounded by that number. Assumes nothing.
use Prim.Native.Nat.{ℕ, ◌+◌, ◌*◌, ◌≤◌}
use native.Mathlib.Omega.{arith}
use mathlib.Core.List.{List}
use lib.ListN.{length}
use lib.Ieee.{Float}
use Rattle.std.specs.Prelude.{Ok, Err}
use Rattle.mesh.specs.Mesh.{Halfedges}
use Rattle.questions.specs.Check.{Checked}
use Rattle.linearize.specs.Linearize.{linearize_answer}
use Rattle.validate.specs.Validate.{Validity, valid_answer}
use Rattle.distribute.specs.Distribute.{Spreading, distribute_tangents}
use Rattle.records.specs.declared.Operation.{Operation}
use Rattle.records.specs.declared.Operation.TheVariants.{Straighten, Spread, Check}
use Rattle.program.specs.Lines.Lines.{lines_of, line_bytes, halfedges_in, printed}
use Rattle.program.specs.declared.lines.Output.{Output}
use Rattle.program.proofs.LinesLaws.Lengths.{lines_length}
use Rattle.program.specs.Operations.Operations.{straighten_output, straighten_lines, spread_output, spread_lines, scratch, check_output, check_lines, operation_lines}

few_lines : (o : Output) (T : List Float) (n : ℕ) → halfedges_in o ≤ n → length (lines_of o T) ≤ line_bytes * (n + 2)
few_lines o T n h = omega (arith, lines_length o T)

straighten_few : (c : Checked) (n : ℕ) → halfedges_in (printed (straighten_output c n)) ≤ n
straighten_few (Ok c) n = omega arith
straighten_few (Err refusal) n = omega arith

spread_few : (c : Spreading) (n : ℕ) → halfedges_in (printed (spread_output c n)) ≤ n
spread_few (Ok counts) n = omega arith
spread_few (Err refusal) n = omega arith

check_few : (c : Validity) (n : ℕ) → halfedges_in (printed (check_output c)) ≤ n
check_few (Ok valid) n = omega arith
check_few (Err refusal) n = omega arith

pub operation_length : (o : Operation) (H : Halfedges) (P N : List Float) (X : List ℕ) (T : List Float) (n p : ℕ) →
    length (operation_lines o H P N X T n p) ≤ line_bytes * (n + 2)
unfolding straighten_lines spread_lines check_lines
operation_length Straighten H P N X T n p = few_lines _ _ n (straighten_few (linearize_answer H P T n p) n)
operation_length Spread H P N X T n p = few_lines _ _ n (spread_few (distribute_tangents H P N X T (scratch n) (scratch n) n p) n)
operation_length Check H P N X T n p = few_lines _ _ n (check_few (valid_answer H P T n p) n)
