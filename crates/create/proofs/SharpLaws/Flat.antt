-- The entries of two flat lists of one length: their count, and the flat lists back. Assumes nothing.
use Prim.Native.Nat.{ℕ, zero, suc, ◌<◌}
use native.Mathlib.Nat.{not-suc-le-zero, le_of_suc-le-suc, suc_inj, suc-ne-zero}
use mathlib.Core.Path.{◌≡◌, refl, sym, ap, subst}
use mathlib.Core.Bool.{true}
use mathlib.Core.List.{List, [], ◌∷◌}
use lib.ListN.{length, get_or}
use lib.Ieee.{Float, nan}
use Rattle.questions.specs.Questions.{sign_clear}
use Rattle.create.specs.Sharp.Entries.{halfedges_of, smoothness_of, entries_of}
use Rattle.create.specs.Sharp.EntrySmoothness.{EntriesIn}
use Rattle.create.specs.declared.sharp.Smoothness.{Smoothness}

pub halfedges_back : (I : List ℕ) (Q : List Float) → length Q ≡ length I → halfedges_of (entries_of I Q) ≡ I
halfedges_back [] Q l = refl
halfedges_back (e ∷ I) [] l = absurd (suc-ne-zero (length I) (sym l))
halfedges_back (e ∷ I) (s ∷ Q) l = ap (λ (J : List ℕ). e ∷ J) (halfedges_back I Q (suc_inj l))

pub smoothness_back : (I : List ℕ) (Q : List Float) → length Q ≡ length I → smoothness_of (entries_of I Q) ≡ Q
smoothness_back [] [] l = refl
smoothness_back [] (s ∷ Q) l = absurd (suc-ne-zero (length Q) l)
smoothness_back (e ∷ I) [] l = absurd (suc-ne-zero (length I) (sym l))
smoothness_back (e ∷ I) (s ∷ Q) l = ap (λ (J : List Float). s ∷ J) (smoothness_back I Q (suc_inj l))

pub entries_length : (I : List ℕ) (Q : List Float) → length Q ≡ length I → length (entries_of I Q) ≡ length I
entries_length [] Q l = refl
entries_length (e ∷ I) [] l = absurd (suc-ne-zero (length I) (sym l))
entries_length (e ∷ I) (s ∷ Q) l = ap suc (entries_length I Q (suc_inj l))

-- entry k
pub entry_at : (I : List ℕ) (Q : List Float) (d : Smoothness) (k : ℕ) → length Q ≡ length I → k < length I → get_or (entries_of I Q) k d ≡ record { halfedge = get_or I k 0; smoothness = get_or Q k nan }
entry_at [] Q d k l h = absurd (not-suc-le-zero h)
entry_at (e ∷ I) [] d k l h = absurd (suc-ne-zero (length I) (sym l))
entry_at (e ∷ I) (s ∷ Q) d zero l h = refl
entry_at (e ∷ I) (s ∷ Q) d (suc k) l h = entry_at I Q d k (suc_inj l) (le_of_suc-le-suc h)

-- what the questions 2, 9 and 10 give of the entries of two flat lists
pub flat_entries_in : (I : List ℕ) (Q : List Float) (n : ℕ) → length Q ≡ length I → ((k : ℕ) → k < length I → get_or I k 0 < n) → ((k : ℕ) → k < length I → sign_clear (get_or Q k nan) ≡ true) → EntriesIn (entries_of I Q) n
flat_entries_in I Q n l h c = record {
  named = λ k j. subst (λ (J : List ℕ). get_or J k 0 < n) (sym (halfedges_back I Q l)) (h k (subst (λ (m : ℕ). k < m) (entries_length I Q l) j));
  clear = λ k j. subst (λ (J : List Float). sign_clear (get_or J k nan) ≡ true) (sym (smoothness_back I Q l)) (c k (subst (λ (m : ℕ). k < m) (entries_length I Q l) j));
}

-- a list of entries is that of its flat lists
pub entries_back : (E : List Smoothness) → entries_of (halfedges_of E) (smoothness_of E) ≡ E
entries_back [] = refl
entries_back (x ∷ E) = ap (λ (G : List Smoothness). x ∷ G) (entries_back E)
