-- `replay::meshes::edges::same_quads` is safe and ends. Assumes nothing.
use Rattle.std.proofs.Common.{sym, ◌∙◌}
use Rattle.questions.proofs.Lengths.{has_length_lem}
use Rattle.smoothing.proofs.Edges.{inside_quad_in}
use Rattle.replay.proofs.meshes.edges.same_quads.Goals as goal

pub is_inside_quad-is_inside-requires : goal.is_inside_quad-is_inside-requires
is_inside_quad-is_inside-requires c =
    let k = c.is_accepted.ensures c.if-not-is_accepted.false in
    inside_quad_in _ _ _ _ k.0 k.1 (has_length_lem _ _ _ (sym c.has_length.ensures ∙ c.if-not-has_length.false)) c.loop-e.e c.loop-e-test.true
