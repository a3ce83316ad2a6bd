-- `validate::all_valid` meets its contract: a test of all triangles finds what the fold over the halfedges does. Assumes nothing.
use Rattle.std.proofs.Common.{ℕ, ◌*◌, ◌/◌, refl, ◌∙◌, arith, rules, tests}
use Rattle.std.proofs.lemmas.Iterator.{YieldsList-from_range}
use Rattle.std.proofs.lemmas.Iterator.Search.{all_from_yields_List}
use Rattle.mesh.specs.Mesh.{as_halfedges}
use Rattle.validate.specs.Marks.{triangle_valid}
use Rattle.validate.proofs.Laws.{triangles_are}
use Rattle.validate.proofs.all_valid.Goals as goal

pub returns : goal.returns
returns c =
    let l = c.args.lists.now in
    let H = as_halfedges l.h.now in
    all_from_yields_List (λ (t : ℕ). triangle_valid H l.t.now (t * 3)) _ _ _ c.all.ensures.ran (YieldsList-from_range 0 (l.n / 3) (l.n / 3) refl (omega arith)) (λ x b q k. search (rules, tests)) ∙ triangles_are H l.t.now l.sound
