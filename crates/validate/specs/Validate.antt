-- `valid_tangents` of src/smoothing_tangents.rs (the mark check). H are the halfedges, P the positions, T the tangents, n and p the counts of halfedges and points.
use Rattle.std.specs.Prelude.{ℕ, ◌≡◌, List, Bool, true, cond, not, ◌&&◌, ◌||◌, length, Float, Result}
use Rattle.std.specs.Bool.{beq}
use Rattle.mesh.specs.Mesh.{paired_halfedge, next_halfedge, prev_halfedge, Halfedges}
use Rattle.questions.specs.Questions.{has_length, mesh_fits}
use Rattle.questions.specs.Check.{Checked, number_of, place_of, value_or, check_mesh, answer_of, when_accepted}
use Rattle.common.specs.Fold.{fold_to}
use Rattle.questions.specs.declared.Refusal.{Refusal}
use Rattle.smoothing.specs.Lists.{is_marked_inside_quad}

-- ---- the marks

-- neither of the other two halfedges of e's triangle is marked
unfoldable pub no_marked_neighbor : List Float → ℕ → Bool
no_marked_neighbor T e = not (is_marked_inside_quad T (next_halfedge e)) && not (is_marked_inside_quad T (prev_halfedge e))

-- the body of the Rust's loop at halfedge e: its pair agrees, and a marked one has no marked neighbour on either side
unfoldable pub valid_at : Halfedges → List Float → ℕ → Bool
valid_at H T e =
    let in_quad = is_marked_inside_quad T e in
    let pair = paired_halfedge H e in
    beq in_quad (is_marked_inside_quad T pair)
    && (not in_quad || no_marked_neighbor T e && no_marked_neighbor T pair)

-- the halfedges before e passed, and e does
abbrev pub valid_so_far : Halfedges → List Float → Bool → ℕ → Bool
valid_so_far H T valid e = valid && valid_at H T e

-- `valid_tangents`: yes where there are not four numbers per halfedge, else whether every halfedge passes
unfoldable pub valid_tangents : Halfedges → List Float → ℕ → Bool
valid_tangents H T n = cond (has_length (length T) n 4) (fold_to (valid_so_far H T) true n) true

-- ---- the call

-- question 2: 3 numbers per halfedge and 3 per point; it is not asked of the tangents
abbrev pub lengths_fit : Halfedges → List Float → ℕ → ℕ → Bool
lengths_fit H P n p = mesh_fits H.numbers (length P) n p

-- whether the marks are valid, or the refusal
abbrev pub Validity : Type 0
Validity = Result Bool Refusal

-- the answer, for every input
abbrev pub valid_answer : Halfedges → List Float → List Float → ℕ → ℕ → Validity
valid_answer H P T n p = answer_of (check_mesh H n p (lengths_fit H P n p)) (valid_tangents H T n)

-- the value of an answer: 1 for yes, 0 for no, and 0 for a refused call, which has none
abbrev pub value_of : Validity → ℕ
value_of = value_or 0 (λ valid. cond valid 1 0)

-- what the definitions give of an answer `r`, after the answer `checked` of the questions, where the marks are `valid`: number, place and value
pub record Values (checked : Checked) (valid : Bool) (r : Validity) : Type 0 where
  pub number : number_of r ≡ number_of checked
  pub place : place_of r ≡ place_of checked
  pub value : value_of r ≡ when_accepted checked (cond valid 1 0) 0
