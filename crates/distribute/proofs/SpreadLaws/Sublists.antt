-- Sublists: what is selected from a list by a test, and how often a number stands in it.
use mathlib.Core.Path.{◌≡◌, refl}
use mathlib.Core.Bool.{Bool, true, false, cond}
use mathlib.Core.List.{List, [], ◌∷◌}
use Prim.Native.Nat.{ℕ, ◌≤◌}
use native.Mathlib.Decide.{ℕ_discrete}
use native.Mathlib.Omega.{arith}
use lib.ListN.{length}
use Rattle.cycles.specs.Count.{count, ◌∈◌}
use Rattle.cycles.proofs.Count.{delta_other}

-- the first list is the second with entries left out
pub data Sublist : List ℕ → List ℕ → Type 0 where
  none : {ys : List ℕ} → Sublist [] ys
  keep : {x : ℕ} {xs ys : List ℕ} → Sublist xs ys → Sublist (x ∷ xs) (x ∷ ys)
  drop : {y : ℕ} {xs ys : List ℕ} → Sublist xs ys → Sublist xs (y ∷ ys)

pub sublist_count : {xs ys : List ℕ} → (e : ℕ) → Sublist xs ys → count e xs ≤ count e ys
unfolding count
sublist_count e none = omega arith
sublist_count e (keep s) = omega (arith, sublist_count e s)
sublist_count e (drop s) = omega (arith, sublist_count e s)

pub sublist_length : {xs ys : List ℕ} → Sublist xs ys → length xs ≤ length ys
sublist_length none = omega arith
sublist_length (keep s) = omega (arith, sublist_length s)
sublist_length (drop s) = omega (arith, sublist_length s)

pub sublist_trans : {xs ys zs : List ℕ} → Sublist ys zs → Sublist xs ys → Sublist xs zs
sublist_trans none none = none
sublist_trans (keep t) none = none
sublist_trans (keep t) (keep s) = keep (sublist_trans t s)
sublist_trans (keep t) (drop s) = drop (sublist_trans t s)
sublist_trans (drop t) s = drop (sublist_trans t s)

-- the entries that pass a test
unfoldable pub select : (ℕ → Bool) → List ℕ → List ℕ
select p [] = []
select p (x ∷ xs) = cond (p x) (x ∷ select p xs) (select p xs)

module _ (p : ℕ → Bool) where
  pub select_nil : select p [] ≡ []
  unfolding select
  select_nil = refl

  pub select_yes : (x : ℕ) (xs : List ℕ) → p x ≡ true → select p (x ∷ xs) ≡ x ∷ select p xs
  unfolding select
  select_yes x xs e = rw e

  pub select_no : (x : ℕ) (xs : List ℕ) → p x ≡ false → select p (x ∷ xs) ≡ select p xs
  unfolding select
  select_no x xs e = rw e

  pub select_sublist : (xs : List ℕ) → Sublist (select p xs) xs
  unfolding select
  select_sublist [] = none
  select_sublist (x ∷ xs) = go (p x) refl (select_sublist xs)
    where
      go : (b : Bool) → p x ≡ b → Sublist (select p xs) xs → Sublist (select p (x ∷ xs)) (x ∷ xs)
      go true e ih = rw e (keep ih)
      go false e ih = rw e (drop ih)

  pub select_passes : (e : ℕ) (xs : List ℕ) → e ∈ select p xs → p e ≡ true
  unfolding select count
  select_passes e [] h = absurd (omega arith)
  select_passes e (x ∷ xs) h = go (p x) refl (select_passes e xs)
    where
      go : (b : Bool) → p x ≡ b → (e ∈ select p xs → p e ≡ true) → p e ≡ true
      go false q ih = ih (rw q at h)
      go true q ih = here (ℕ_discrete e x)
        where
          here : Dec (e ≡ x) → p e ≡ true
          here (yes r) = rw r q
          here (no r) = ih (let m : e ∈ (x ∷ select p xs) = rw q at h in omega (arith, delta_other e x r))
