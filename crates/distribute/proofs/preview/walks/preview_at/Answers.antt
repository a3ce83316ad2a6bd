-- `preview::walks::preview_at` meets its contract: a start is passed over, or both its walks go, as the sum of the first one decides, which is spreading's.
use mathlib.Core.Path.{refl, sym, ap, ◌∙◌}
use Rattle.mesh.specs.Mesh.{as_halfedges}
use Rattle.distribute.proofs.SpreadLaws.Branches.{at_none, at_first, at_both}
use Rattle.distribute.specs.Steps.FloatSteps.{turns_none, plan}
use Rattle.distribute.specs.Walks.Walks.{state_of, first_from}
use Rattle.distribute.specs.Preview.Walks.{steps_at}
use Rattle.distribute.specs.declared.preview.walks.Summed.{Summed}
use Rattle.distribute.proofs.preview.walks.preview_at.Goals as goal

pub returns-then-not-is_start-clause-previews : goal.returns-then-not-is_start-clause-previews
returns-then-not-is_start-clause-previews c P N places h =
    let a = c.args in
    let S = steps_at a.lists.now P N in
    rw (at_none S a.start (state_of S a.t.now a.counts places) (sym c.is_start.ensures ∙ c.if-not-is_start.true)) record { bytes_are = h; looked_is = refl; turned_is = refl }

pub returns-then-turns_none-clause-previews : goal.returns-then-turns_none-clause-previews
returns-then-turns_none-clause-previews c P N places h =
    let a = c.args in
    let S = steps_at a.lists.now P N in
    let sums = c.first_walk-seen.ensures.sums P N in
    let none = sym (ap (λ (s : Summed). turns_none s.count s.normal) sums.1) ∙ sym c.turns_none.ensures ∙ c.if-turns_none.true in
    rw (at_first S a.start (state_of S a.t.now a.counts places) (sym c.is_start.ensures ∙ c.if-not-is_start.false) (first_from (as_halfedges a.lists.now.h.now) P N a.lists.now.fixed.now a.lists.now.n a.t.now a.start a.counts.looked) refl none)
    record { bytes_are = h; looked_is = sums.0; turned_is = refl }

pub returns-clause-previews : goal.returns-clause-previews
returns-clause-previews c P N places h =
    let a = c.args in
    let S = steps_at a.lists.now P N in
    let found = first_from (as_halfedges a.lists.now.h.now) P N a.lists.now.fixed.now a.lists.now.n a.t.now a.start a.counts.looked in
    let r = c.first_walk-seen in
    let sums = r.ensures.sums P N in
    let some = sym (ap (λ (s : Summed). turns_none s.count s.normal) sums.1) ∙ sym c.turns_none.ensures ∙ c.if-turns_none.false in
    rw (at_both S a.start (state_of S a.t.now a.counts places) (sym c.is_start.ensures ∙ c.if-not-is_start.false) found refl some, ← sums.0)
    (c.second_walk-turned.ensures.previews P N (plan a.start found.last found.gathered) (record { looked = r.result.looked; turned = a.counts.turned }) places h)
