-- Making from sharp edges as a public call: `create_tangents` of src/smoothing_tangents.rs, with its questions. H are the halfedges, P the positions, N the point normals, A the face normals, R the face references, I and Q the halfedges and the smoothness of the sharp entries, T the tangents, `old` whether these are old tangents, X, F, M, D, W and L the scratch lists `fixed`, `flat`, `smooth`, `desired`, `at` and `link`, n and p the counts of halfedges and points.
use Rattle.std.specs.Prelude.{ℕ, List, Bool, ◌&&◌, length, ℤ, Float}
use Rattle.mesh.specs.Mesh.{Halfedges}
use Rattle.questions.specs.Questions.{has_length}
use Rattle.questions.specs.Check.{Checked, check_mesh, check_refs, check_entries, answer_of, when_accepted}
use Rattle.create_shared.specs.Lengths.{mesh_lists_fit}
use Rattle.create_shared.specs.Answer.{Making}
use Rattle.create.specs.declared.sharp.Smoothness.{Smoothness}
use Rattle.create.specs.Sharp.Entries.{entries_of}
use Rattle.create.specs.Whole.Core.{create_tangents, create_directionless}

-- ---- the questions

-- question 2 of the lists that the call reads, and of the tangents: what their lengths must be
abbrev pub lists_fit : ℕ → ℕ → ℕ → ℕ → ℕ → ℕ → ℕ → ℕ → ℕ → ℕ → Bool
lists_fit halfedges positions normals face_normals refs entries smoothness tangents n p =
    mesh_lists_fit halfedges positions normals face_normals refs n p && has_length smoothness entries 1 && has_length tangents n 4

-- question 2 of scratch: `at` has a place for each point, each other list one for each halfedge
abbrev pub scratch_fits : ℕ → ℕ → ℕ → ℕ → ℕ → ℕ → ℕ → ℕ → Bool
scratch_fits fixed flat smooth desired at link n p =
    has_length fixed n 1 && has_length flat n 1 && has_length smooth n 1 && has_length desired n 1 && has_length at p 1 && has_length link n 1

-- questions 1 to 10; `lengths` is the answer to question 2
unfoldable pub check_create : Halfedges → List ℤ → List ℕ → List Float → ℕ → ℕ → Bool → Checked
check_create H R I Q n p lengths = check_entries (check_refs (check_mesh H n p lengths) R n) I Q n

-- the answer of the questions, for every input
abbrev pub check_lists : Halfedges → List Float → List Float → List Float → List ℤ → List ℕ → List Float → List Float → List ℕ → List ℕ → List Float → List Float → List ℕ → List ℕ → ℕ → ℕ → Checked
check_lists H P N A R I Q T X F M D W L n p =
    let lists = lists_fit H.numbers (length P) (length N) (length A) (length R) (length I) (length Q) (length T) n p in
    let scratch = scratch_fits (length X) (length F) (length M) (length D) (length W) (length L) n p in
    check_create H R I Q n p (lists && scratch)

-- ---- the call

-- the tangents after a call whose questions are answered so, with the sharp entries E
abbrev pub tangents_after : Checked → Halfedges → List Float → List Float → List Float → List ℤ → List Smoothness → List Float → Bool → ℕ → ℕ → List Float
tangents_after checked H P N A R E T old n p = when_accepted checked (create_tangents H P N A R E T old n p) T

-- the answer, for every input
abbrev pub create_answer : Halfedges → List Float → List Float → List Float → List ℤ → List ℕ → List Float → List Float → List ℕ → List ℕ → List Float → List Float → List ℕ → List ℕ → Bool → ℕ → ℕ → Making
create_answer H P N A R I Q T X F M D W L old n p =
    answer_of (check_lists H P N A R I Q T X F M D W L n p) (create_directionless H P R (entries_of I Q) T old n p)
