-- What an accepted call establishes of its lists, and what it makes. Assumes nothing.
use Prim.Native.Nat.{ℕ, ◌*◌, ◌≤◌}
use mathlib.Core.Path.{◌≡◌, refl, sym, subst, ◌∙◌}
use mathlib.Core.Bool.{Bool, true, ◌&&◌}
use mathlib.Core.List.{List}
use lib.ListN.{length}
use lib.IntN.{ℤ}
use lib.Ieee.{Float}
use Rattle.mesh.specs.Mesh.{Halfedges}
use Rattle.mesh.specs.Sound.{Sound}
use Rattle.questions.specs.Questions.{has_length}
use Rattle.std.specs.Prelude.{Ok}
use Rattle.questions.specs.Check.{Checked, check_mesh, check_refs, check_entries, answer_of}
use Rattle.std.proofs.lemmas.Bool.{and_parts}
use Rattle.questions.proofs.Lengths.{has_length_lem, has_one}
use Rattle.questions.proofs.Accepted.{accepted, refs_exactly, entries_exactly}
use Rattle.create.specs.Sharp.Entries.{entries_of}
use Rattle.create.specs.Sharp.EntrySmoothness.{EntriesIn, entry_smoothness}
use Rattle.create.proofs.SharpLaws.Flat.{flat_entries_in}
use Rattle.create.specs.declared.sharp.Smoothness.{Smoothness}
use Rattle.create.specs.Whole.Core.{create_directionless}
use Rattle.create.specs.Whole.Filled.{Lists, create_filled, filled_directionless}
use Rattle.create.proofs.WholeLaws.Filled.{filled_same, create_within}
use Rattle.create_shared.proofs.Lengths.{MeshListsFit, mesh_lists_fit_lem}
use Rattle.create.specs.Create.{lists_fit, scratch_fits, check_create, check_lists, tangents_after}

-- question 2 of the lists read and of the tangents
pub record ListsFit (h l m a r i q t n p : ℕ) : Type 0 where
  pub mesh_lists : MeshListsFit h l m a n p
  pub smoothness : q ≡ i
  pub tangents : t ≡ n * 4

lists_fit_lem : (h l m a r i q t n p : ℕ) → lists_fit h l m a r i q t n p ≡ true → ListsFit h l m a r i q t n p
lists_fit_lem h l m a r i q t n p e =
    let e₇ = and_parts _ (has_length t n 4) e in
    let e₆ = and_parts _ (has_length q i 1) e₇.0 in
    record {
      mesh_lists = mesh_lists_fit_lem h l m a r n p e₆.0;
      smoothness = has_one q i e₆.1;
      tangents = has_length_lem t n 4 e₇.1;
    }

-- and of scratch
pub record ScratchFits (x f s d c l n p : ℕ) : Type 0 where
  pub fixed : x ≡ n
  pub flat : f ≡ n
  pub smooth : s ≡ n
  pub desired : d ≡ n
  pub points : c ≡ p
  pub links : l ≡ n

scratch_fits_lem : (x f s d c l n p : ℕ) → scratch_fits x f s d c l n p ≡ true → ScratchFits x f s d c l n p
scratch_fits_lem x f s d c l n p e =
    let e₆ = and_parts _ (has_length l n 1) e in
    let e₅ = and_parts _ (has_length c p 1) e₆.0 in
    let e₄ = and_parts _ (has_length d n 1) e₅.0 in
    let e₃ = and_parts _ (has_length s n 1) e₄.0 in
    let e₂ = and_parts (has_length x n 1) (has_length f n 1) e₃.0 in
    record {
      fixed = has_one x n e₂.0;
      flat = has_one f n e₂.1;
      smooth = has_one s n e₃.1;
      desired = has_one d n e₄.1;
      points = has_one c p e₅.1;
      links = has_one l n e₆.1;
    }

-- What a call was answered, c, by the questions of its lists, where E are its sharp entries: `create_tangents` is lent two flat lists of them, and `create_entries` E, whose flat lists are I and Q.
pub record Asked (H : Halfedges) (P N A : List Float) (R : List ℤ) (I : List ℕ) (Q T : List Float) (X F : List ℕ) (S D : List Float) (C L : List ℕ) (n p : ℕ) (E : List Smoothness) (c : Checked) : Type 0 where
  pub is : c ≡ check_lists H P N A R I Q T X F S D C L n p
  pub entries : length Q ≡ length I → entries_of I Q ≡ E

-- all of it
pub record AcceptedLists (H : Halfedges) (P N A T : List Float) (X F : List ℕ) (S D : List Float) (C L : List ℕ) (n p : ℕ) (I : List ℕ) (Q : List Float) (E : List Smoothness) : Type 0 where
  pub sound : Sound H n p
  pub mesh_lists : MeshListsFit H.numbers (length P) (length N) (length A) n p
  pub tangents : length T ≡ n * 4
  pub scratch : ScratchFits (length X) (length F) (length S) (length D) (length C) (length L) n p
  pub smoothness : length Q ≡ length I
  pub entries : EntriesIn E n

module _ {H : Halfedges} {P N A : List Float} {R : List ℤ} {I : List ℕ} {Q T : List Float} {X F : List ℕ} {S D : List Float} {C L : List ℕ} {n p : ℕ} {E : List Smoothness} where
  -- the questions 1 to 8 were answered m; i and q are the lengths of the flat lists
  pub asked : {i q : ℕ} {m c : Checked} → i ≡ length I → q ≡ length Q → (length Q ≡ length I → entries_of I Q ≡ E)
      → m ≡ check_refs (check_mesh H n p (lists_fit H.numbers (length P) (length N) (length A) (length R) i q (length T) n p && scratch_fits (length X) (length F) (length S) (length D) (length C) (length L) n p)) R n
      → c ≡ check_entries m I Q n → Asked H P N A R I Q T X F S D C L n p E c
  unfolding check_create
  asked a b e k l = record { is = rw (← a, ← b, ← k) l; entries = e }

  module _ {c : Checked} (w : Asked H P N A R I Q T X F S D C L n p E c) where
    pub accepted_lists : c ≡ Ok tt → AcceptedLists H P N A T X F S D C L n p I Q E
    unfolding check_create
    accepted_lists e =
        let lengths = lists_fit H.numbers (length P) (length N) (length A) (length R) (length I) (length Q) (length T) n p && scratch_fits (length X) (length F) (length S) (length D) (length C) (length L) n p in
        let a = (entries_exactly (check_refs (check_mesh H n p lengths) R n) n I Q refl).0 (sym w.is ∙ e) in
        let b = accepted H n p lengths ((refs_exactly (check_mesh H n p lengths) n R refl).0 a.0).0 in
        let q = and_parts _ _ b.0 in
        let l = lists_fit_lem _ _ _ _ _ _ _ _ n p q.0 in
        record {
          sound = b.1;
          mesh_lists = l.mesh_lists;
          tangents = l.tangents;
          scratch = scratch_fits_lem _ _ _ _ _ _ n p q.1;
          smoothness = l.smoothness;
          entries = subst (λ (G : List Smoothness). EntriesIn G n) (w.entries l.smoothness) (flat_entries_in I Q n l.smoothness (λ k h. (a.1 k h).0) (λ k h. (a.1 k h).1));
        }

    -- the lists that are written, once the scratch list S' holds the smoothness
    pub written : {S' : List Float} → c ≡ Ok tt → length S' ≡ length S → Lists T X F S' D C L n p
    written e same =
        let l = accepted_lists e in
        let s = l.scratch in
        record {
          lists = record { tangents = l.tangents; fixed = s.fixed; flat = s.flat; smooth = same ∙ s.smooth; points = s.points; links = s.links };
          desired = s.desired;
        }

    -- where the scratch list is to hold the smoothness
    pub entries_in : c ≡ Ok tt → EntriesIn E (length S)
    entries_in e = let l = accepted_lists e in subst (EntriesIn E) (sym l.scratch.smooth) l.entries

    -- What a call answers and leaves: U are the tangents, and k the count, of the core with the smoothness M that the entries give.
    pub made : (old : Bool) {M U : List Float} {k : ℕ} → c ≡ Ok tt
        → M ≡ entry_smoothness E (length S) → U ≡ create_filled H P N A R M T old n p → k ≡ filled_directionless H P R M T old n p
        → (Ok k ≡ answer_of (check_lists H P N A R I Q T X F S D C L n p) (create_directionless H P R E T old n p)) × (U ≡ tangents_after (Ok tt) H P N A R E T old n p) × (k ≤ 2 * n)
    made old a m u q =
        let l = accepted_lists a in
        let same = filled_same l.sound R E l.entries l.scratch.smooth m P N A T old in
        let told = q ∙ same.1 in
        (rw (sym w.is ∙ a, told), u ∙ same.0, subst (λ (d : ℕ). d ≤ 2 * n) (sym told) (create_within l.sound R E l.entries P T old))
