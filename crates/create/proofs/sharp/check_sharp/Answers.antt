-- `create::sharp::check_sharp` meets its contract: place k of either flat list is that of entry k.
use Rattle.std.proofs.Common.{rules, sym}
use Rattle.std.proofs.lemmas.List.{get_or-map, length-map}
use Rattle.std.specs.Float.{nan}
use Rattle.questions.specs.Questions.{names_halfedge, has_clear_sign}
use Rattle.questions.specs.Check.{check_entries}
use Rattle.create.specs.Sharp.Entries.{halfedges_of, smoothness_of}
use Rattle.create.proofs.SharpLaws.Adding.{no_entry}
use Rattle.create.proofs.sharp.check_sharp.Goals as goal

pub returns : goal.returns
unfolding check_entries
returns c =
    let a = c.args in
    let named = c.ask.ensures (names_halfedge (halfedges_of a.sharp.now) a.n) (λ k b h post. rw (get_or-map (λ e. e.halfedge) a.sharp.now k no_entry 0 h) (search rules)) in
    let clear = c.ask-2.ensures (has_clear_sign (smoothness_of a.sharp.now)) (λ k b h post. rw (get_or-map (λ e. e.smoothness) a.sharp.now k no_entry nan h) (search rules)) in
    rw (length-map, c.in_ok-sofar.was, sym named, c.in_ok-ask.was) clear
