-- Making from sharp edges as a public call, with the sharp entries E as a list of structs. The other letters are those of `Create`.
use Rattle.std.specs.Prelude.{ℕ, List, Bool, ℤ, Float}
use Rattle.mesh.specs.Mesh.{Halfedges}
use Rattle.questions.specs.Check.{Checked, answer_of}
use Rattle.create_shared.specs.Answer.{Making}
use Rattle.create.specs.Sharp.Entries.{halfedges_of, smoothness_of}
use Rattle.create.specs.declared.sharp.Smoothness.{Smoothness}
use Rattle.create.specs.Whole.Core.{create_directionless}
use Rattle.create.specs.Create.{check_lists as check_flat_lists}

-- the answer of the questions, for every input: that of `Create` at the halfedges and the smoothness of the entries
abbrev pub check_lists : Halfedges → List Float → List Float → List Float → List ℤ → List Smoothness → List Float → List ℕ → List ℕ → List Float → List Float → List ℕ → List ℕ → ℕ → ℕ → Checked
check_lists H P N A R E T X F M D W L n p = check_flat_lists H P N A R (halfedges_of E) (smoothness_of E) T X F M D W L n p

-- the answer, for every input
abbrev pub create_answer : Halfedges → List Float → List Float → List Float → List ℤ → List Smoothness → List Float → List ℕ → List ℕ → List Float → List Float → List ℕ → List ℕ → Bool → ℕ → ℕ → Making
create_answer H P N A R E T X F M D W L old n p =
    answer_of (check_lists H P N A R E T X F M D W L n p) (create_directionless H P R E T old n p)
