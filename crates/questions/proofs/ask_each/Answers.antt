-- `questions::ask_each` meets its contract.
use Rattle.std.proofs.Common.{rules, sym}
use Rattle.mesh.specs.Mesh.{as_halfedges}
use Rattle.questions.specs.All.{ask_each}
use Rattle.questions.specs.Questions.{has_points, has_pair, is_mutual, is_opposite, is_joined}
use Rattle.questions.proofs.ask_each.Goals as goal

pub returns-in_err-ask-2 : goal.returns-in_err-ask-2
unfolding ask_each
returns-in_err-ask-2 c =
    let a = c.args in
    let H = as_halfedges a.h.now in
    let points = c.ask.ensures (has_points H a.p) (λ k b h post. search rules) in
    let pair = c.ask-2.ensures (has_pair H a.n) (λ k b h post. search rules) in
    rw (sym points, c.in_ok-ask.was, sym pair) (search rules)

pub returns-in_err-ask-3 : goal.returns-in_err-ask-3
unfolding ask_each
returns-in_err-ask-3 c =
    let a = c.args in
    let H = as_halfedges a.h.now in
    let points = c.ask.ensures (has_points H a.p) (λ k b h post. search rules) in
    let pair = c.ask-2.ensures (has_pair H a.n) (λ k b h post. search rules) in
    let back = c.ask-3.ensures (is_mutual H) (λ k b h post. search rules) in
    rw (sym points, c.in_ok-ask.was, sym pair, c.in_ok-ask-2.was, sym back) (search rules)

pub returns-in_err-ask-4 : goal.returns-in_err-ask-4
unfolding ask_each
returns-in_err-ask-4 c =
    let a = c.args in
    let H = as_halfedges a.h.now in
    let points = c.ask.ensures (has_points H a.p) (λ k b h post. search rules) in
    let pair = c.ask-2.ensures (has_pair H a.n) (λ k b h post. search rules) in
    let back = c.ask-3.ensures (is_mutual H) (λ k b h post. search rules) in
    let opposite = c.ask-4.ensures (is_opposite H) (λ k b h post. search rules) in
    rw (sym points, c.in_ok-ask.was, sym pair, c.in_ok-ask-2.was, sym back, c.in_ok-ask-3.was, sym opposite) (search rules)

pub returns : goal.returns
unfolding ask_each
returns c =
    let a = c.args in
    let H = as_halfedges a.h.now in
    let points = c.ask.ensures (has_points H a.p) (λ k b h post. search rules) in
    let pair = c.ask-2.ensures (has_pair H a.n) (λ k b h post. search rules) in
    let back = c.ask-3.ensures (is_mutual H) (λ k b h post. search rules) in
    let opposite = c.ask-4.ensures (is_opposite H) (λ k b h post. search rules) in
    rw (sym points, c.in_ok-ask.was, sym pair, c.in_ok-ask-2.was, sym back, c.in_ok-ask-3.was, sym opposite, c.in_ok-ask-4.was) (c.ask-5.ensures (is_joined H) (λ k b h post. search rules))
