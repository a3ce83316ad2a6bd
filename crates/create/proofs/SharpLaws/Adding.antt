-- The smoothness that the first k entries give, one entry at a time. Assumes nothing.
use Prim.Native.Nat.{ℕ, zero, suc, ◌+◌, ◌<◌, ◌≤◌}
use native.Mathlib.Nat.{not-suc-le-zero, le_of_suc-le-suc}
use native.Mathlib.Numerals.{add-one}
use mathlib.Core.Path.{◌≡◌, refl, ap, subst, ◌∙◌}
use mathlib.Core.List.{List, [], ◌∷◌, foldl}
use lib.ListN.{length, get_or, take, replicate}
use lib.Seq.{take_all}
use lib.Ieee.{Float, nan}
use Rattle.float.specs.Ops.{one}
use Rattle.create.specs.Sharp.EntrySmoothness.{EntriesIn, add_entry, add_smoothness, entry_smoothness}
use Rattle.create.specs.declared.sharp.Smoothness.{Smoothness}
use Rattle.std.proofs.lemmas.List.{get_or-map}

-- a fold over the first k of a list, and one more
fold_more : {A B : Type 0} (f : B → A → B) (d : A) (s : B) (l : List A) (k : ℕ) → k < length l → foldl f s (take (suc k) l) ≡ f (foldl f s (take k l)) (get_or l k d)
fold_more f d s [] k h = absurd (not-suc-le-zero h)
fold_more f d s (x ∷ l) zero h = refl
fold_more f d s (x ∷ l) (suc k) h = fold_more f d (f s x) l k (le_of_suc-le-suc h)

-- what stands past the end of a list of entries
abbrev pub no_entry : Smoothness
no_entry = record { halfedge = 0; smoothness = nan }

-- what the first k entries make of S
abbrev pub added : List Float → List Smoothness → ℕ → List Float
added S E k = foldl add_smoothness S (take k E)

pub add_more : (S : List Float) (E : List Smoothness) (k : ℕ) → k < length E → added S E (k + 1) ≡ add_entry (added S E k) (get_or E k no_entry).halfedge (get_or E k no_entry).smoothness
unfolding add_smoothness
add_more S E k h = ap (added S E) (add-one k) ∙ fold_more add_smoothness no_entry S E k h

-- after the last
pub all_added : (S : List Float) (E : List Smoothness) (k n : ℕ) → length E ≤ k → S ≡ replicate n one → added S E k ≡ entry_smoothness E n
unfolding entry_smoothness
all_added S E k n l e = ap (foldl add_smoothness S) (take_all k E l) ∙ ap (λ (T : List Float). foldl add_smoothness T E) e

-- the halfedge of entry k
pub named_at : {E : List Smoothness} {n : ℕ} → EntriesIn E n → (k : ℕ) → k < length E → (get_or E k no_entry).halfedge < n
named_at {E} {n} i k h = subst (λ (m : ℕ). m < n) (get_or-map (λ e. e.halfedge) E k no_entry 0 h) (i.named k h)
