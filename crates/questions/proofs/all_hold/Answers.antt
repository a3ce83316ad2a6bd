-- `questions::all_hold` meets its contract: a test of all triangles is what the search for the lowest one finds.
use Rattle.std.proofs.Common.{ℕ, ◌≡◌, ◌*◌, ◌/◌, refl, sym, ◌∙◌, length, arith, true, rules, tests}
use Rattle.std.proofs.lemmas.Iterator.{YieldsList-from_range}
use Rattle.std.proofs.lemmas.Iterator.Search.{all_from_yields_List}
use Rattle.mesh.specs.Mesh.{halfedge_stride, as_halfedges}
use Rattle.questions.specs.All.{triangle_holds}
use Rattle.questions.specs.Questions.{has_length}
use Rattle.questions.proofs.Search.{all_lowest}
use Rattle.questions.proofs.all_hold.Goals as goal

pub returns : goal.returns
returns c =
    let a = c.args in
    let t = λ (k : ℕ). triangle_holds (as_halfedges a.h.now) a.n a.p (k * 3) in
    let fits : has_length (length a.h.now) a.n halfedge_stride ≡ true = sym c.has_length.ensures ∙ c.if-not-has_length.false in
    rw fits (all_from_yields_List t _ _ _ c.all.ensures.ran (YieldsList-from_range 0 (a.n / 3) (a.n / 3) refl (omega arith)) (λ x b q k. search (rules, tests)) ∙ all_lowest t (a.n / 3))
