-- How often a number stands in a list, and how that meets sums over the numbers below n. Nothing of meshes is in it.
use mathlib.Core.Path.{◌≡◌, refl, sym, ap, ◌∙◌, subst}
use mathlib.Core.List.{List, [], ◌∷◌, reverse_aux}
use mathlib.Core.Logic.{◌≢◌, ◌⊎◌, inl, inr}
use Prim.Native.Nat.{ℕ, zero, suc, ◌+◌, ◌*◌, ◌≤◌, ◌<◌, zero-le, suc-le-suc}
use native.Mathlib.Nat.{le_refl, not-suc-le-zero, le_of_suc-le-suc, one-mul, zero-mul}
use native.Mathlib.Decide.{ℕ_discrete}
use native.Mathlib.Omega.{arith}
use lib.ListN.{length, get_or}
use borrow.Author.Tests.{eq-eqb, ne_eqb}
use Rattle.common.specs.Count.{sum}
use Rattle.common.proofs.Sums.{sum_ext, sum_add, sum_zero, sum_one}
use Rattle.cycles.specs.Count.{delta, count, ◌∈◌, Exactly, none, hit, miss}

-- ---- how often a number stands in a list

pub delta_equal : (e x : ℕ) → e ≡ x → delta e x ≡ 1
delta_equal e x q = rw (eq-eqb e x q)

pub delta_other : (e x : ℕ) → e ≢ x → delta e x ≡ 0
delta_other e x q = rw (ne_eqb e x q)

-- a member has an index, and what has an index is a member
pub count_at : (e : ℕ) (xs : List ℕ) → e ∈ xs → (i : ℕ) × (i < length xs) × (get_or xs i 0 ≡ e)
unfolding count
count_at e [] h = absurd (omega arith)
count_at e (x ∷ xs) h = go (ℕ_discrete e x) (count_at e xs)
  where
    go : Dec (e ≡ x) → (e ∈ xs → (i : ℕ) × (i < length xs) × (get_or xs i 0 ≡ e)) → (i : ℕ) × (i < length (x ∷ xs)) × (get_or (x ∷ xs) i 0 ≡ e)
    go (yes q) ih = (0, suc-le-suc zero-le, sym q)
    go (no q) ih = let t = ih (omega (arith, delta_other e x q)) in (suc t.0, suc-le-suc t.1, t.2)

pub at_count : (xs : List ℕ) (i : ℕ) → i < length xs → get_or xs i 0 ∈ xs
unfolding count
at_count [] i h = absurd (not-suc-le-zero h)
at_count (x ∷ xs) zero h = omega (arith, delta_equal x x refl)
at_count (x ∷ xs) (suc i) h = omega (arith, at_count xs i (le_of_suc-le-suc h))

-- a list whose places differ pairwise has each number at most once
pub count_once : (e : ℕ) (xs : List ℕ) → ((i j : ℕ) → i < j → j < length xs → get_or xs i 0 ≢ get_or xs j 0) → count e xs ≤ 1
unfolding count
count_once e [] h = zero-le
count_once e (x ∷ xs) h = go (ℕ_discrete e x) (count_once e xs (λ i j l k. h (suc i) (suc j) (suc-le-suc l) (suc-le-suc k)))
  where
    twice : e ≡ x → e ∈ xs → ⊥
    twice q m = let t = count_at e xs m in h 0 (suc t.0) (suc-le-suc zero-le) (suc-le-suc t.1) (sym q ∙ sym t.2)

    zero_or : (k : ℕ) → (1 ≤ k → ⊥) → k ≡ 0
    zero_or zero f = refl
    zero_or (suc k) f = absurd (f (suc-le-suc zero-le))

    go : Dec (e ≡ x) → count e xs ≤ 1 → delta e x + count e xs ≤ 1
    go (yes q) ih = omega (arith, delta_equal e x q, zero_or (count e xs) (twice q))
    go (no q) ih = omega (arith, delta_other e x q)

-- ---- sums over the entries of a list

-- the sum of f over the entries
unfoldable pub total : List ℕ → (ℕ → ℕ) → ℕ
total [] f = 0
total (x ∷ xs) f = f x + total xs f

-- all entries are below n
abbrev pub Below : ℕ → List ℕ → Type 0
Below n xs = (e : ℕ) → e ∈ xs → e < n

below_head : (n x : ℕ) (xs : List ℕ) → Below n (x ∷ xs) → x < n
unfolding count
below_head n x xs h = h x (omega (arith, delta_equal x x refl))

below_tail : (n x : ℕ) (xs : List ℕ) → Below n (x ∷ xs) → Below n xs
unfolding count
below_tail n x xs h e l = h e (omega arith)

-- a sum over a list whose entries are below n is a sum over the numbers below n: so it does not see the list's order
pub total_count : (n : ℕ) (xs : List ℕ) (f : ℕ → ℕ) → Below n xs → total xs f ≡ sum n (λ e. count e xs * f e)
unfolding total count
total_count n [] f h = sym (sum_zero n (λ e. 0 * f e) (λ i l. zero-mul (f i)))
total_count n (x ∷ xs) f h =
    let one : sum n (λ e. delta e x * f e) ≡ f x =
    sum_one n (λ e. delta e x * f e) x (below_head n x xs h) (λ j l q. rw (delta_other j x q) (zero-mul (f j))) ∙ rw (delta_equal x x refl) (one-mul (f x)) in
    let both : sum n (λ e. (delta e x + count e xs) * f e) ≡ sum n (λ e. delta e x * f e) + sum n (λ e. count e xs * f e) =
    sum_ext n (λ e. (delta e x + count e xs) * f e) (λ e. delta e x * f e + count e xs * f e) (λ i l. omega arith) ∙ sum_add n (λ e. delta e x * f e) (λ e. count e xs * f e) in
    omega (arith, total_count n xs f (below_tail n x xs h))

pub length_count : (n : ℕ) (xs : List ℕ) → Below n xs → length xs ≡ sum n (λ e. count e xs)
unfolding count
length_count n [] h = sym (sum_zero n (λ e. 0) (λ i l. refl))
length_count n (x ∷ xs) h =
    let one : sum n (λ e. delta e x) ≡ 1 = sum_one n (λ e. delta e x) x (below_head n x xs h) (λ j l q. delta_other j x q) ∙ delta_equal x x refl in
    omega (arith, length_count n xs (below_tail n x xs h), sum_add n (λ e. delta e x) (λ e. count e xs))

pub total_sum : (n : ℕ) (xs : List ℕ) (f : ℕ → ℕ → ℕ) → total xs (λ s. sum n (f s)) ≡ sum n (λ e. total xs (λ s. f s e))
unfolding total
total_sum n [] f = sym (sum_zero n (λ e. 0) (λ i l. refl))
total_sum n (x ∷ xs) f = rw (total_sum n xs f) (sym (sum_add n (f x) (λ e. total xs (λ s. f s e))))

-- a sum that is not 0 has an entry that adds to it
pub total_some : (xs : List ℕ) (f : ℕ → ℕ) → 1 ≤ total xs f → (s : ℕ) × (s ∈ xs) × (1 ≤ f s)
unfolding total count
total_some [] f h = absurd (omega arith)
total_some (x ∷ xs) f h = go (f x) refl (total_some xs f)
  where
    go : (k : ℕ) → f x ≡ k → (1 ≤ total xs f → (s : ℕ) × (s ∈ xs) × (1 ≤ f s)) → (s : ℕ) × (1 ≤ delta s x + count s xs) × (1 ≤ f s)
    go zero q ih = let t = ih (omega arith) in (t.0, omega (arith, t.1), t.2)
    go (suc k) q ih = (x, omega (arith, delta_equal x x refl), omega arith)

-- ---- exactly k of the numbers below n have P

pub exactly : (P : ℕ → Type 0) (n : ℕ) (f : ℕ → ℕ) → ((i : ℕ) → i < n → ((f i ≡ 1) × P i) ⊎ ((f i ≡ 0) × ¬ P i)) → Exactly P n (sum n f)
unfolding sum
exactly P zero f h = none
exactly P (suc n) f h = go (h n (le_refl (suc n))) (exactly P n f (λ i l. h i (omega arith)))
  where
    go : ((f n ≡ 1) × P n) ⊎ ((f n ≡ 0) × ¬ P n) → Exactly P n (sum n f) → Exactly P (suc n) (sum n f + f n)
    go (inl p) ih = subst (λ (k : ℕ). Exactly P (suc n) k) (omega (arith, p.0)) (hit ih p.1)
    go (inr p) ih = subst (λ (k : ℕ). Exactly P (suc n) k) (omega (arith, p.0)) (miss ih p.1)

-- ---- sums over a list, by its members

pub total_has : (xs : List ℕ) (f : ℕ → ℕ) (s : ℕ) → s ∈ xs → f s ≤ total xs f
unfolding total count
total_has [] f s h = absurd (omega arith)
total_has (x ∷ xs) f s h = go (ℕ_discrete s x) (total_has xs f s)
  where
    go : Dec (s ≡ x) → (s ∈ xs → f s ≤ total xs f) → f s ≤ f x + total xs f
    go (yes q) ih = omega (arith, ap f q)
    go (no q) ih = omega (arith, ih (omega (arith, delta_other s x q)))

pub total_le : (xs : List ℕ) (f g : ℕ → ℕ) → ((s : ℕ) → s ∈ xs → f s ≤ g s) → total xs f ≤ total xs g
unfolding total count
total_le [] f g h = le_refl 0
total_le (x ∷ xs) f g h = omega (arith, h x (omega (arith, delta_equal x x refl)), total_le xs f g (λ s l. h s (omega arith)))

pub total_ext : (xs : List ℕ) (f g : ℕ → ℕ) → ((s : ℕ) → s ∈ xs → f s ≡ g s) → total xs f ≡ total xs g
unfolding total count
total_ext [] f g h = refl
total_ext (x ∷ xs) f g h = omega (arith, h x (omega (arith, delta_equal x x refl)), total_ext xs f g (λ s l. h s (omega arith)))

-- the sum of the lengths of lists of numbers below n, one for each entry: count by number
pub total_length : (n : ℕ) (xs : List ℕ) (f : ℕ → List ℕ) → ((s : ℕ) → s ∈ xs → Below n (f s)) → total xs (λ s. length (f s)) ≡ sum n (λ e. total xs (λ s. count e (f s)))
total_length n xs f h = total_ext xs (λ s. length (f s)) (λ s. sum n (λ e. count e (f s))) (λ s m. length_count n (f s) (h s m)) ∙ total_sum n xs (λ s e. count e (f s))

-- the order of a list is not seen
pub count_reverse : (e : ℕ) (xs done : List ℕ) → count e (reverse_aux xs done) ≡ count e xs + count e done
unfolding count
count_reverse e [] done = omega arith
count_reverse e (x ∷ xs) done = omega (arith, count_reverse e xs (x ∷ done))

pub zero_or_more : (k : ℕ) → (k ≡ 0) ⊎ (1 ≤ k)
zero_or_more zero = inl refl
zero_or_more (suc k) = inr (suc-le-suc zero-le)

-- two counts of at most one
pub at_most_one : (a b : ℕ) → a ≤ 1 → b ≤ 1 → (1 ≤ a → 1 ≤ b) → (1 ≤ b → 1 ≤ a) → a ≡ b
at_most_one zero zero la lb f g = refl
at_most_one zero (suc b) la lb f g = absurd (not-suc-le-zero (g (suc-le-suc zero-le)))
at_most_one (suc a) zero la lb f g = absurd (not-suc-le-zero (f (suc-le-suc zero-le)))
at_most_one (suc a) (suc b) la lb f g = omega arith

-- there is one such k
pub exactly_unique : (P : ℕ → Type 0) {n k j : ℕ} → Exactly P n k → Exactly P n j → k ≡ j
exactly_unique P none b = from_none b refl
  where
    from_none : {n j : ℕ} → Exactly P n j → n ≡ 0 → 0 ≡ j
    from_none none e = refl
    from_none (hit b p) e = absurd (omega arith)
    from_none (miss b p) e = absurd (omega arith)
exactly_unique P (hit a p) (hit b q) = ap suc (exactly_unique P a b)
exactly_unique P (hit a p) (miss b q) = absurd (q p)
exactly_unique P (miss a p) (hit b q) = absurd (p q)
exactly_unique P (miss a p) (miss b q) = exactly_unique P a b
