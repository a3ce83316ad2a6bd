-- `lines::put_tangent_lines` meets its contract: after e turns the lines below e are stored. Assumes nothing.
use Rattle.program.specs.Lines.Text.{Put}
use Rattle.program.specs.Lines.Lines.{tangent_lines}
use Rattle.program.proofs.lines.put_tangent_lines.Given as goal

abbrev pub invariant-loop-e : goal.invariant-loop-e
invariant-loop-e l = Put l.initial.out l.at (tangent_lines l.t l.e) l.out l.end
