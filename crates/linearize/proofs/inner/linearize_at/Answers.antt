-- `linearize::inner::linearize_at` meets its contract: each way is what the tests pick.
use mathlib.Core.Path.{sym, ◌∙◌}
use Rattle.linearize.specs.Linearize.{linearize_at}
use Rattle.linearize.proofs.Laws.{end_unflat, other_end}
use Rattle.linearize.proofs.inner.linearize_at.Goals as goal

pub returns-then-not-is_flat : goal.returns-then-not-is_flat
unfolding linearize_at
returns-then-not-is_flat c =
    simp (
      ← c.is_forward.ensures,
      c.if-not-is_forward.false,
      ← c.paired_halfedge-pair.ensures,
      ← c.tangent_at-tangent.ensures,
      ← c.tangent_at-other.ensures,
    )
    (sym (other_end _ _ _ _ _ _ (sym c.is_flat.ensures ∙ c.if-is_flat.false) ∙ end_unflat _ _ _ _ _ (sym c.is_flat-2.ensures ∙ c.if-not-is_flat.true)))

pub returns : goal.returns
unfolding linearize_at
returns c =
    simp (
      ← c.is_forward.ensures,
      c.if-not-is_forward.false,
      ← c.paired_halfedge-pair.ensures,
      ← c.tangent_at-tangent.ensures,
      ← c.tangent_at-other.ensures,
      ← c.edge_vec-edge-2.ensures,
    )
    (rw c.neg.ensures at c.linearize_end.ensures ∙ sym (other_end _ _ _ _ _ _ (sym c.is_flat.ensures ∙ c.if-is_flat.false)))
