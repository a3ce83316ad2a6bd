-- What the contracts of the calls say: number, place, entries and tally of the answer, and the lists after it. Assumes nothing.
use Rattle.std.proofs.Common.{ℕ, ◌≡◌, refl, ap, ap₂, List, Ok, Err}
use lib.Ieee.{Float}
use Rattle.mesh.specs.Mesh.{Halfedges}
use Rattle.questions.specs.Check.{Checked, answer_of}
use Rattle.questions.specs.declared.Refusal.{Refusal}
use Rattle.sharpen.specs.Crease.{min_radians, is_listed}
use Rattle.sharpen.specs.Entries.{Entries, entries_in}
use Rattle.sharpen.specs.Sharpen.{check_lists, creases, crease_tally, Listing, listed_of, entries_of, sharpen_edges, entries_after, Values}
use Rattle.sharpen.specs.Edges.{Outcome}
use Rattle.sharpen.specs.declared.edge.Rule.{Rule}
use Rattle.sharpen.specs.declared.edge.Rule.TheVariants.{Clean}
use Rattle.sharpen.proofs.Entries.{entries_twice}
use Rattle.sharpen.proofs.Edges.{edges_held_after, tally_after}

module _ (rule : Rule) (H : Halfedges) (A : List Float) (angle smooth : Float) (E : List ℕ) (S : List Float) (n p : ℕ) where
  -- the answer after these questions
  abbrev answer_after : Checked → Listing
  answer_after checked = answer_of checked (listed_of (creases rule H A angle smooth E S n).count (crease_tally H A angle n))

  values_are : (checked : Checked) → check_lists H A E S n p ≡ checked → Values rule H A angle smooth E S n p (answer_after checked)
  values_are (Ok tt) e = record {
    number = rw e;
    place = rw e;
    entries = rw e;
    tally = rw e;
    half = rw e (entries_twice E S H (is_listed Clean H A (min_radians angle)) smooth n);
  }
  values_are (Err refusal) e = record { number = rw e; place = rw e; entries = rw e; tally = rw e; half = rw e }

  pub values_of : {r : Listing} → r ≡ sharpen_edges rule H A angle smooth E S n p → Values rule H A angle smooth E S n p r
  values_of e = rw e (values_are (check_lists H A E S n p) refl)

  -- the same of all that the contracts of the calls say
  pub outcome_of : {I : List ℕ} {Q : List Float} {r : Listing} → r ≡ sharpen_edges rule H A angle smooth E S n p → entries_in I Q (entries_of r) ≡ entries_after rule H A angle smooth E S n p → Outcome rule H A angle smooth E S n p I Q r
  outcome_of e f = record {
    answer = e;
    listed = ap (λ (x : Entries). x.halfedges) f;
    copied = ap (λ (x : Entries). x.smoothness) f;
    values = values_of e;
    edges = rw f (edges_held_after H A angle smooth E S n p rule);
    counted = rw e (tally_after H A angle smooth E S n p rule);
  }

  -- lists with k entries, which the loop gave, and its tally
  pub outcome_accepted : {I : List ℕ} {Q : List Float} {k t : ℕ} → check_lists H A E S n p ≡ Ok tt → entries_in I Q k ≡ creases rule H A angle smooth E S n → t ≡ crease_tally H A angle n → Outcome rule H A angle smooth E S n p I Q (Ok (listed_of k t))
  outcome_accepted accepted e f =
      outcome_of (rw accepted (ap₂ (λ (entries tally : ℕ). Ok (listed_of entries tally)) (ap (λ (x : Entries). x.count) e) f)) (rw accepted e)

  -- lists as lent, where the questions refuse
  pub outcome_refused : {refusal : Refusal} → check_lists H A E S n p ≡ Err refusal → Outcome rule H A angle smooth E S n p E S (Err refusal)
  outcome_refused refused = outcome_of (rw refused refl) (rw refused refl)
