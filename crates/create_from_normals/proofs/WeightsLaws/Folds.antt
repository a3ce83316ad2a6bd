-- What a loop over a list keeps, and what it comes by at one entry of the list. Assumes nothing.
use Prim.Native.Nat.{ℕ}
use native.Mathlib.Omega.{arith}
use native.Mathlib.Decide.{ℕ_discrete}
use mathlib.Core.Path.{◌≡◌, refl, subst}
use mathlib.Core.List.{List, [], ◌∷◌, foldl}
use Rattle.cycles.specs.Count.{count, ◌∈◌}
use Rattle.cycles.proofs.Count.{delta_equal, delta_other}

here : (x : ℕ) (xs : List ℕ) → x ∈ x ∷ xs
unfolding count
here x xs = omega (arith, delta_equal x x refl)

later : (y x : ℕ) (xs : List ℕ) → y ∈ xs → y ∈ x ∷ xs
unfolding count
later y x xs m = omega arith

not_here : (y x : ℕ) (xs : List ℕ) → (y ≡ x → ⊥) → y ∈ x ∷ xs → y ∈ xs
unfolding count
not_here y x xs q m = omega (arith, delta_other y x q)

module _ {S : Type 0} (step : S → ℕ → S) where
  -- each turn of the loop keeps I
  abbrev pub Keeps : (S → Type 0) → List ℕ → Type 0
  Keeps I xs = (s : S) (x : ℕ) → x ∈ xs → I s → I (step s x)

  keeps_later : (I : S → Type 0) (x : ℕ) (xs : List ℕ) → Keeps I (x ∷ xs) → Keeps I xs
  keeps_later I x xs f s y m = f s y (later y x xs m)

  pub list_keeps : (I : S → Type 0) (xs : List ℕ) → Keeps I xs → (s : S) → I s → I (foldl step s xs)
  list_keeps I [] f s i = i
  list_keeps I (x ∷ xs) f s i = list_keeps I xs (keeps_later I x xs f) (step s x) (f s x (here x xs) i)

  -- and the turn at y makes J of I
  pub list_gains : (I J : S → Type 0) (y : ℕ) (xs : List ℕ) → y ∈ xs → Keeps I xs → Keeps J xs → ((s : S) → I s → J (step s y)) → (s : S) → I s → J (foldl step s xs)
  unfolding count
  list_gains I J y [] m f g h s i = absurd (omega arith)
  list_gains I J y (x ∷ xs) m f g h s i = go (ℕ_discrete y x) (list_gains I J y xs)
    where
      go : Dec (y ≡ x) → (y ∈ xs → Keeps I xs → Keeps J xs → ((s : S) → I s → J (step s y)) → (s : S) → I s → J (foldl step s xs)) → J (foldl step (step s x) xs)
      go (yes q) ih = list_keeps J xs (keeps_later J x xs g) (step s x) (subst (λ (z : ℕ). J (step s z)) q (h s i))
      go (no q) ih = ih (not_here y x xs q m) (keeps_later I x xs f) (keeps_later J x xs g) h (step s x) (f s x (here x xs) i)
