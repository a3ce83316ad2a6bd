-- Both crease listings as public calls: the questions, the answer, and the lists after it. Each definition is handed the rule: `Ported` for `sharpen_edges`, `Clean` for `sharpen_edges_clean`. H are the halfedges, A the face normals, I and Q the two lent lists, n and p the counts.
use Rattle.std.specs.Prelude.{ℕ, ◌*◌, ◌/◌, ◌≡◌, List, Bool, ◌&&◌, length, Float, Result}
use Rattle.common.specs.Count.{count_below}
use Rattle.mesh.specs.Mesh.{halfedge_stride, Halfedges}
use Rattle.questions.specs.Questions.{has_length}
use Rattle.questions.specs.Check.{Checked, number_of, place_of, value_or, check_mesh, answer_of, when_accepted}
use Rattle.questions.specs.declared.Refusal.{Refusal}
use Rattle.sharpen.specs.Crease.{min_radians, is_listed}
use Rattle.sharpen.specs.Entries.{Entries, entries_in, list_edges}
use Rattle.sharpen.specs.declared.Listed.{Listed}
use Rattle.sharpen.specs.declared.edge.Rule.{Rule}
use Rattle.sharpen.specs.declared.edge.Rule.TheVariants.{Clean}

-- ---- the values of an answer

-- what was listed, or the refusal
abbrev pub Listing : Type 0
Listing = Result Listed Refusal

-- the number of entries, and the crease tally; 0 for a refusal, which lists nothing
abbrev pub entries_of : Listing → ℕ
entries_of = value_or 0 (λ (listed : Listed). listed.entries)

abbrev pub tally_of : Listing → ℕ
tally_of = value_or 0 (λ (listed : Listed). listed.tally)

-- ---- the questions

-- question 2 of the lists that the call is lent
abbrev pub lengths_fit : Halfedges → List Float → List ℕ → List Float → ℕ → Bool
lengths_fit H A I Q n =
    has_length H.numbers n halfedge_stride && has_length (length A) (n / 3) 3
    && (has_length (length I) n 1 && has_length (length Q) n 1)

-- questions 1 to 7
abbrev pub check_lists : Halfedges → List Float → List ℕ → List Float → ℕ → ℕ → Checked
check_lists H A I Q n p = check_mesh H n p (lengths_fit H A I Q n)

-- ---- the call

-- the lists with the entries of an accepted mesh
abbrev pub creases : Rule → Halfedges → List Float → Float → Float → List ℕ → List Float → ℕ → Entries
creases rule H A angle smooth I Q n = list_edges H (is_listed rule H A (min_radians angle)) smooth (entries_in I Q 0) n

-- the crease tally of either call: the number of edges that the clean listing names
abbrev pub crease_tally : Halfedges → List Float → Float → ℕ → ℕ
crease_tally H A angle n = count_below (is_listed Clean H A (min_radians angle)) n

-- so many entries, and the tally
abbrev pub listed_of : ℕ → ℕ → Listed
listed_of entries tally = record { entries = entries; tally = tally }

-- the answer
abbrev pub sharpen_edges : Rule → Halfedges → List Float → Float → Float → List ℕ → List Float → ℕ → ℕ → Listing
sharpen_edges rule H A angle smooth I Q n p = answer_of (check_lists H A I Q n p) (listed_of (creases rule H A angle smooth I Q n).count (crease_tally H A angle n))

-- the lists after it: as lent where it refuses
abbrev pub entries_after : Rule → Halfedges → List Float → Float → Float → List ℕ → List Float → ℕ → ℕ → Entries
entries_after rule H A angle smooth I Q n p = when_accepted (check_lists H A I Q n p) (creases rule H A angle smooth I Q n) (entries_in I Q 0)

-- what the definitions give of the answer `r`: number, place, entries and tally; and that the tally is half of the clean listing's entries on the same lists
pub record Values (rule : Rule) (H : Halfedges) (A : List Float) (angle smooth : Float) (I : List ℕ) (Q : List Float) (n p : ℕ) (r : Listing) : Type 0 where
  pub number : number_of r ≡ number_of (check_lists H A I Q n p)
  pub place : place_of r ≡ place_of (check_lists H A I Q n p)
  pub entries : entries_of r ≡ (entries_after rule H A angle smooth I Q n p).count
  pub tally : tally_of r ≡ when_accepted (check_lists H A I Q n p) (crease_tally H A angle n) 0
  pub half : (entries_after Clean H A angle smooth I Q n p).count ≡ 2 * tally_of r
