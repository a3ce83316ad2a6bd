-- Laws of `lowest`: how a search from 0 on comes by it. `lowest_from t (n - i) i` is what is left to be found at place i.
use mathlib.Core.Path.{◌≡◌, refl}
use mathlib.Core.Bool.{Bool, true, false}
use Prim.Native.Nat.{ℕ, zero, suc, ◌+◌, ◌-◌, ◌≤◌, ◌<◌}
use mathlib.Core.Logic.{◌⊎◌, inl, inr}
use native.Mathlib.Nat.{eq-or-lt_of_le}
use native.Mathlib.Decide.{dec_le}
use native.Mathlib.Numerals.{add-one}
use native.Mathlib.Omega.{arith}
use Rattle.common.specs.Lowest.{lowest, lowest_from}

module _ (t : ℕ → Bool) where
  pub lowest_start : (n : ℕ) → lowest_from t (n - 0) 0 ≡ lowest t n
  unfolding lowest
  lowest_start n = let z : n - 0 ≡ n = omega arith in rw z

  left : (n i : ℕ) → i < n → n - i ≡ suc (n - (i + 1))
  left n i h = omega arith

  -- the test says yes at i: go on at i + 1
  pub lowest_yes : (n i : ℕ) → i < n → t i ≡ true → lowest_from t (n - i) i ≡ lowest_from t (n - (i + 1)) (i + 1)
  unfolding lowest_from
  lowest_yes n i h e = rw (left n i h, add-one i) (rw (e, lowest_from))

  -- the test says no at i: i is the place
  pub lowest_no : (n i : ℕ) → i < n → t i ≡ false → lowest_from t (n - i) i ≡ i
  unfolding lowest_from
  lowest_no n i h e = rw (left n i h) (rw (e, lowest_from))

  -- no place is left
  pub lowest_end : (n i : ℕ) → n ≤ i → lowest_from t (n - i) i ≡ i
  unfolding lowest_from
  lowest_end n i h = let z : n - i ≡ 0 = omega arith in rw z

  -- what `lowest` is, without its recursion
  yes_step : (k i : ℕ) → t i ≡ true → lowest_from t (suc k) i ≡ lowest_from t k (suc i)
  unfolding lowest_from
  yes_step k i e = rw (e, lowest_from)

  no_step : (k i : ℕ) → t i ≡ false → lowest_from t (suc k) i ≡ i
  unfolding lowest_from
  no_step k i e = rw (e, lowest_from)

  from_bounds : (k i : ℕ) → (i ≤ lowest_from t k i) × (lowest_from t k i ≤ i + k)
  unfolding lowest_from
  from_bounds zero i = omega arith
  from_bounds (suc k) i = go (from_bounds k (suc i)) (t i) refl
    where
      go : (suc i ≤ lowest_from t k (suc i)) × (lowest_from t k (suc i) ≤ suc i + k) → (b : Bool) → t i ≡ b → (i ≤ lowest_from t (suc k) i) × (lowest_from t (suc k) i ≤ i + suc k)
      go ih true e = rw (yes_step k i e) (omega arith)
      go ih false e = rw (no_step k i e) (omega arith)

  from_found : (k i : ℕ) → lowest_from t k i < i + k → t (lowest_from t k i) ≡ false
  unfolding lowest_from
  from_found zero i h = absurd (omega arith)
  from_found (suc k) i h = go (from_found k (suc i)) (t i) refl
    where
      go : (lowest_from t k (suc i) < suc i + k → t (lowest_from t k (suc i)) ≡ false) → (b : Bool) → t i ≡ b → t (lowest_from t (suc k) i) ≡ false
      go ih true e = rw (yes_step k i e) (let l : lowest_from t k (suc i) < i + suc k = rw (yes_step k i e) at h in ih (omega arith))
      go ih false e = rw (no_step k i e) e

  from_before : (k i j : ℕ) → i ≤ j → j < lowest_from t k i → t j ≡ true
  unfolding lowest_from
  from_before zero i j h l = absurd (omega arith)
  from_before (suc k) i j h l = go (from_before k (suc i) j) (t i) refl (eq-or-lt_of_le h)
    where
      go : (suc i ≤ j → j < lowest_from t k (suc i) → t j ≡ true) → (b : Bool) → t i ≡ b → (i ≡ j) ⊎ (i < j) → t j ≡ true
      go ih true e (inl q) = rw (← q) e
      go ih true e (inr q) = ih q (rw (yes_step k i e) at l)
      go ih false e (inl q) = absurd (let m : j < i = rw (no_step k i e) at l in omega arith)
      go ih false e (inr q) = absurd (let m : j < i = rw (no_step k i e) at l in omega arith)

  pub lowest_within : (n : ℕ) → lowest t n ≤ n
  unfolding lowest
  lowest_within n = omega (arith, from_bounds n 0)

  pub lowest_found : (n : ℕ) → lowest t n < n → t (lowest t n) ≡ false
  unfolding lowest
  lowest_found n h = from_found n 0 (omega arith)

  pub lowest_before : (n k : ℕ) → k < lowest t n → t k ≡ true
  unfolding lowest
  lowest_before n k h = from_before n 0 k (omega arith) h

  pub lowest_least : (n k : ℕ) → t k ≡ false → lowest t n ≤ k
  lowest_least n k e = go (dec_le (lowest t n) k)
    where
      go : Dec (lowest t n ≤ k) → lowest t n ≤ k
      go (yes h) = h
      go (no h) = let e' : t k ≡ true = lowest_before n k (omega arith) in let z : ◌≡◌ {A = ℕ} 0 1 = cc in absurd (omega arith)

  pub lowest_all : (n : ℕ) → ((k : ℕ) → k < n → t k ≡ true) → n ≤ lowest t n
  lowest_all n f = go (dec_le n (lowest t n))
    where
      go : Dec (n ≤ lowest t n) → n ≤ lowest t n
      go (yes h) = h
      go (no h) =
          let e₁ = lowest_found n (omega arith) in
          let e₂ = f (lowest t n) (omega arith) in
          let z : ◌≡◌ {A = ℕ} 0 1 = cc in
          absurd (omega arith)

  pub lowest_is : (n r : ℕ) → r < n → t r ≡ false → ((k : ℕ) → k < r → t k ≡ true) → lowest t n ≡ r
  lowest_is n r h e b = go (eq-or-lt_of_le (lowest_least n r e))
    where
      go : (lowest t n ≡ r) ⊎ (lowest t n < r) → lowest t n ≡ r
      go (inl q) = q
      go (inr q) = let e₁ = b (lowest t n) q in let e₂ = lowest_found n (omega arith) in let z : ◌≡◌ {A = ℕ} 0 1 = cc in absurd (omega arith)
