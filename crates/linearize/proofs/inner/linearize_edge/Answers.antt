-- `linearize::inner::linearize_edge` meets its contract: both ends at once where both are flat, else the one and then the other.
use mathlib.Core.Path.{sym, ◌∙◌}
use Rattle.std.proofs.lemmas.Bool.{and_parts}
use Rattle.linearize.proofs.Thirds.{both_flat}
use Rattle.linearize.proofs.inner.linearize_edge.Goals as goal

pub returns-then-is_flat : goal.returns-then-is_flat
returns-then-is_flat c =
    let a = c.args in
    let yes = and_parts c.is_flat.result c.is_flat-2.result (c.if-is_flat.true) in
    simp (c.put_tangent-then-is_flat.ensures, c.with_unit_weight-then-is_flat.ensures, c.neg.ensures, c.put_tangent.ensures, c.with_unit_weight.ensures, c.div-third.ensures)
    (sym (both_flat a.t.now a.e a.pair a.edge a.tangent a.other (sym c.is_flat.ensures ∙ yes.0) (sym c.is_flat-2.ensures ∙ yes.1)))
