-- `replay::meshes::is_accepted`: an accepted mesh is sound, and has its halfedges. Assumes nothing.
use Rattle.std.proofs.Common.{sym, ◌∙◌}
use Rattle.mesh.specs.Mesh.{as_halfedges}
use Rattle.questions.proofs.Lengths.{has_length_lem}
use Rattle.replay.proofs.meshes.is_accepted.Goals as goal

pub returns : goal.returns
unfolding as_halfedges
returns c = λ _. let k = c.check_mesh.ensures.accepted.0 c.in-Ok.is in (k.1, has_length_lem _ _ _ (sym c.has_length-lengths.ensures ∙ k.0))
