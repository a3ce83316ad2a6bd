-- Which files question 32 refuses: exactly those in which some directed edge occurs twice or has no reverse. s are the file's bytes.
use Rattle.std.specs.Prelude.{ℕ, ◌<◌, ◌≡◌, ◌⊎◌, List, true, false, Ok}
use Rattle.questions.specs.Check.{number_of, each}
use Rattle.questions.specs.declared.Question.TheVariants.{Pairing}
use Rattle.stl.specs.File.File.{halfedge_count}
use Rattle.stl.specs.File.Edges.{same_edge, is_reverse, is_paired}
use Rattle.stl.specs.Stl.{Reading}
use Rattle.stl.specs.declared.MeshCounts.{MeshCounts}

-- two halfedges have one directed edge
abbrev pub OccursTwice : List ℕ → Type 0
OccursTwice s = (e : ℕ) × (f : ℕ) × (e < f) × (f < halfedge_count s) × (same_edge s e f ≡ true)

-- a halfedge's directed edge has no reverse
abbrev pub HasNoReverse : List ℕ → Type 0
HasNoReverse s = (e : ℕ) × (e < halfedge_count s) × ((f : ℕ) → f < halfedge_count s → is_reverse s e f ≡ false)

-- THE CLAIM, of a file: question 32 refuses it if and only if it has such an edge
abbrev pub RefusedExactly : List ℕ → Type 0
RefusedExactly s =
    let Refused = each Pairing (is_paired s) (halfedge_count s) ≡ Ok tt → ⊥ in
    (Refused → OccursTwice s ⊎ HasNoReverse s) × (OccursTwice s ⊎ HasNoReverse s → Refused)

-- and of an answer `r` of the call to the file: refused with 32, it has such an edge, and accepted, it has none
pub record PairedExactly (s : List ℕ) (r : Reading) : Type 0 where
  pub question : RefusedExactly s
  pub refused : number_of r ≡ 32 → OccursTwice s ⊎ HasNoReverse s
  pub accepted : (counts : MeshCounts) → r ≡ Ok counts → OccursTwice s ⊎ HasNoReverse s → ⊥
