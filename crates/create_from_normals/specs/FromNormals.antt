-- Making from normals as a public call: `create_tangents_from_normals` of src/smoothing_tangents.rs, with its questions. `list` is the list of halfedges, P the positions, N the point normals, A the face normals, R the face references, G the row list, three numbers for each row, T the tangents, `old` whether these are old tangents, X, B, C, D and W the scratch lists `fixed`, `inside`, `current`, `desired` and `first`, n and p the counts of halfedges and points.
use Rattle.std.specs.Prelude.{ℕ, ◌/◌, ◌%◌, List, Bool, ◌&&◌, length, eqb, ℤ, Float}
use Rattle.mesh.specs.Mesh.{as_halfedges}
use Rattle.questions.specs.Questions.{has_length}
use Rattle.questions.specs.Check.{Checked, check_mesh, check_rows, check_refs, answer_of, when_accepted}
use Rattle.create_shared.specs.Lengths.{mesh_lists_fit}
use Rattle.create_shared.specs.Answer.{Making}
use Rattle.create_from_normals.specs.State.State.{get_normal}
use Rattle.create_from_normals.specs.Whole.Core.{create_tangents_from_normals, from_normals_directionless}

-- ---- the questions

-- question 2 of the lists that the call reads, and of the tangents: what their lengths must be. The row list has any number of rows.
abbrev pub lists_fit : ℕ → ℕ → ℕ → ℕ → ℕ → ℕ → ℕ → ℕ → ℕ → Bool
lists_fit halfedges positions normals face_normals refs row_numbers tangents n p =
    mesh_lists_fit halfedges positions normals face_normals refs n p && eqb (row_numbers % 3) 0 && has_length tangents n 4

-- question 2 of scratch: `first` has a place for each point, each other list one for each halfedge
abbrev pub scratch_fits : ℕ → ℕ → ℕ → ℕ → ℕ → ℕ → ℕ → Bool
scratch_fits fixed inside current desired first n p =
    has_length fixed n 1 && has_length inside n 1 && has_length current n 1 && has_length desired n 1 && has_length first p 1

-- questions 1 to 7, 12 and 8, in this order; `lengths` is the answer to question 2, `rows` how many rows there are
unfoldable pub check_normals : List ℤ → List ℤ → ℕ → ℕ → ℕ → Bool → Checked
check_normals list R rows n p lengths = check_refs (check_rows (check_mesh (as_halfedges list) n p lengths) list rows n) R n

-- the answer of the questions, for every input
abbrev pub check_lists : List ℤ → List Float → List Float → List Float → List ℤ → List Float → List Float → List ℕ → List ℕ → List Float → List Float → List ℕ → ℕ → ℕ → Checked
check_lists list P N A R G T X B C D W n p =
    let lists = lists_fit (length list) (length P) (length N) (length A) (length R) (length G) (length T) n p in
    let scratch = scratch_fits (length X) (length B) (length C) (length D) (length W) n p in
    check_normals list R (length G / 3) n p (lists && scratch)

-- ---- the call

-- the tangents after a call whose questions are answered so: the normal of each halfedge is that of its row
abbrev pub tangents_after : Checked → List ℤ → List Float → List Float → List Float → List ℤ → List Float → List Float → Bool → ℕ → ℕ → List Float
tangents_after checked list P N A R G T old n p =
    when_accepted checked (create_tangents_from_normals (as_halfedges list) P N A R (get_normal list G) T old n p) T

-- the answer, for every input
abbrev pub create_answer : List ℤ → List Float → List Float → List Float → List ℤ → List Float → List Float → List ℕ → List ℕ → List Float → List Float → List ℕ → Bool → ℕ → ℕ → Making
create_answer list P N A R G T X B C D W old n p =
    answer_of (check_lists list P N A R G T X B C D W n p) (from_normals_directionless (as_halfedges list) P N A R (get_normal list G) T old n p)
