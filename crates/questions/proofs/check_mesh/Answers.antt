-- `questions::check_mesh` meets its contract.
use Rattle.std.proofs.Common.{◌≡◌, sym, ◌∙◌, true, ◌&&◌, length, Ok, rules}
use Rattle.questions.specs.declared.Question.TheVariants.{Counts, Lengths}
use Rattle.mesh.specs.Mesh.{halfedge_stride, as_halfedges}
use Rattle.questions.specs.Questions.{counts_fit, has_length}
use Rattle.questions.specs.Check.{check_mesh}
use Rattle.questions.specs.All.{triangles_hold, ask_each}
use Rattle.std.proofs.lemmas.Bool.{and_parts}
use Rattle.questions.proofs.Accepted.{asked_accepted, sound_accepted, mesh_exactly, counts_fit_lem}
use Rattle.questions.proofs.TriangleLaws.{triangles_sound}
use Rattle.questions.proofs.check_mesh.Goals as goal

pub returns-then-all_hold : goal.returns-then-all_hold
returns-then-all_hold c =
    let a = c.args in
    let H = as_halfedges a.h.now in
    let fit : counts_fit a.n a.p ≡ true = sym c.counts_fit.ensures ∙ asked_accepted Counts 0 _ (sym c.ask_at.ensures ∙ c.in_ok-ask_at.was) in
    let long : a.lengths ≡ true = asked_accepted Lengths 0 _ (sym c.ask_at-2.ensures ∙ c.in_ok-ask_at-2.was) in
    let all : has_length (length a.h.now) a.n halfedge_stride && triangles_hold H a.n a.p ≡ true = sym c.all_hold.ensures ∙ c.if-all_hold.true in
    let few = counts_fit_lem a.n a.p fit in
    let yes : triangles_hold H a.n a.p ≡ true = (and_parts (has_length (length a.h.now) a.n halfedge_stride) _ all).1 in
    let answer : Ok tt ≡ check_mesh H a.n a.p a.lengths = rw long (sym (sound_accepted H a.n a.p (triangles_sound H a.n a.p few.0 few.1 few.2 yes))) in
    record { answer = answer; accepted = mesh_exactly H a.n a.p a.lengths answer }

pub returns-clause-accepted : goal.returns-clause-accepted
unfolding check_mesh ask_each
returns-clause-accepted c =
    let a = c.args in
    mesh_exactly (as_halfedges a.h.now) a.n a.p a.lengths (search rules)
