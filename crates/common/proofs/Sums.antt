-- Laws of sums over the numbers below n. Assumes nothing.
use mathlib.Core.Path.{◌≡◌, refl, sym, ap}
use mathlib.Core.Logic.{◌≢◌, ◌⊎◌, inl, inr}
use Prim.Native.Nat.{ℕ, zero, suc, ◌+◌, ◌*◌, ◌≤◌, ◌<◌}
use native.Mathlib.Nat.{le_refl, not-suc-le-zero, eq-or-lt_of_le}
use native.Mathlib.Decide.{ℕ_discrete}
use native.Mathlib.Numerals.{add-one}
use native.Mathlib.Omega.{arith}
use Rattle.common.specs.Count.{sum}

-- a turn of a loop that adds, at the code's `k + 1`
pub sum_turn : (f : ℕ → ℕ) (k a b : ℕ) → a ≡ sum k f → b ≡ f k → a + b ≡ sum (k + 1) f
unfolding sum
sum_turn f k a b p q = rw (p, q, add-one k)

pub sum_ext : (n : ℕ) (f g : ℕ → ℕ) → ((i : ℕ) → i < n → f i ≡ g i) → sum n f ≡ sum n g
unfolding sum
sum_ext zero f g h = refl
sum_ext (suc n) f g h = rw (sum_ext n f g (λ i l. h i (omega arith)), h n (le_refl (suc n)))

pub sum_le : (n : ℕ) (f g : ℕ → ℕ) → ((i : ℕ) → i < n → f i ≤ g i) → sum n f ≤ sum n g
unfolding sum
sum_le zero f g h = le_refl 0
sum_le (suc n) f g h = omega (arith, sum_le n f g (λ i l. h i (omega arith)), h n (le_refl (suc n)))

pub sum_add : (n : ℕ) (f g : ℕ → ℕ) → sum n (λ i. f i + g i) ≡ sum n f + sum n g
unfolding sum
sum_add zero f g = refl
sum_add (suc n) f g = omega (arith, sum_add n f g)

pub sum_zero : (n : ℕ) (f : ℕ → ℕ) → ((i : ℕ) → i < n → f i ≡ 0) → sum n f ≡ 0
unfolding sum
sum_zero zero f h = refl
sum_zero (suc n) f h = omega (arith, sum_zero n f (λ i l. h i (omega arith)), h n (le_refl (suc n)))

-- all but one are 0
pub sum_one : (n : ℕ) (f : ℕ → ℕ) (i : ℕ) → i < n → ((j : ℕ) → j < n → j ≢ i → f j ≡ 0) → sum n f ≡ f i
unfolding sum
sum_one zero f i l h = absurd (not-suc-le-zero l)
sum_one (suc n) f i l h = go (ℕ_discrete i n) (λ k. sum_one n f i k (λ j b. h j (omega arith)))
  where
    go : Dec (i ≡ n) → (i < n → sum n f ≡ f i) → sum n f + f n ≡ f i
    go (yes e) ih = omega (arith, ap f e, sum_zero n f (λ j b. h j (omega arith) (λ q. omega arith)))
    go (no ne) ih = omega (arith, ih (omega arith), h n (le_refl (suc n)) (λ q. ne (sym q)))

-- each is at most 1
pub sum_le_n : (n : ℕ) (f : ℕ → ℕ) → ((i : ℕ) → i < n → f i ≤ 1) → sum n f ≤ n
unfolding sum
sum_le_n zero f h = le_refl 0
sum_le_n (suc n) f h = omega (arith, sum_le_n n f (λ i l. h i (omega arith)), h n (le_refl (suc n)))

pub sum_mono : (f : ℕ → ℕ) (k n : ℕ) → k ≤ n → sum k f ≤ sum n f
unfolding sum
sum_mono f k zero h = let z : k ≡ 0 = omega arith in rw z (le_refl 0)
sum_mono f k (suc n) h = go (eq-or-lt_of_le h) (sum_mono f k n)
  where
    go : (k ≡ suc n) ⊎ (k < suc n) → (k ≤ n → sum k f ≤ sum n f) → sum k f ≤ sum (suc n) f
    go (inl q) ih = rw q (le_refl (sum (suc n) f))
    go (inr q) ih = omega (arith, ih (omega arith))

-- a sum of sums, the other way round
pub sum_swap : (n m : ℕ) (f : ℕ → ℕ → ℕ) → sum n (λ i. sum m (f i)) ≡ sum m (λ j. sum n (λ i. f i j))
unfolding sum
sum_swap zero m f = sym (sum_zero m (λ j. 0) (λ j l. refl))
sum_swap (suc n) m f = rw (sum_swap n m f) (sym (sum_add m (λ j. sum n (λ i. f i j)) (f n)))

pub sum_times : (n c : ℕ) (f : ℕ → ℕ) → sum n (λ i. c * f i) ≡ c * sum n f
unfolding sum
sum_times zero c f = omega arith
sum_times (suc n) c f = omega (arith, sum_times n c f)
