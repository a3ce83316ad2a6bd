-- Laws of `count_below`, up to a count by an injection. Assumes nothing.
use Prim.Native.Nat.{ℕ, zero, suc, ◌+◌, ◌*◌, ◌≤◌, ◌<◌}
use native.Mathlib.Decide.{ℕ_discrete, dec_lt, dec_le}
use native.Mathlib.Omega.{arith}
use mathlib.Core.Path.{◌≡◌, refl, sym, ap, ◌∙◌}
use mathlib.Core.Logic.{◌≢◌}
use mathlib.Core.Bool.{Bool, true, false, cond, not, ◌&&◌}
use borrow.Author.Tests.{eq-eqb, ne_eqb}
use lib.Dec.{eqb}
use Rattle.common.specs.Count.{sum, count_below}
use Rattle.common.proofs.Sums.{sum_ext, sum_zero, sum_one, sum_le_n, sum_mono}

-- a test as a number
pub one_at_most : (b : Bool) → cond b 1 0 ≤ 1
one_at_most true = omega arith
one_at_most false = omega arith

module _ (t : ℕ → Bool) where
  pub count_yes : (k : ℕ) → t k ≡ true → count_below t (suc k) ≡ count_below t k + 1
  unfolding sum count_below
  count_yes k e = rw e

  pub count_no : (k : ℕ) → t k ≡ false → count_below t (suc k) ≡ count_below t k
  unfolding sum count_below
  count_no k e = rw e (omega arith)

  pub count_mono : (k n : ℕ) → k ≤ n → count_below t k ≤ count_below t n
  unfolding count_below
  count_mono = sum_mono (λ k. cond (t k) 1 0)

  pub count_within : (n : ℕ) → count_below t n ≤ n
  unfolding count_below
  count_within n = sum_le_n n (λ k. cond (t k) 1 0) (λ k l. one_at_most (t k))

  pub count_start : 0 ≡ count_below t 0
  unfolding sum count_below
  count_start = refl

  -- a number that passes is counted above it
  pub count_above : (a b : ℕ) → t a ≡ true → a < b → count_below t a < count_below t b
  count_above a b e h = omega (arith, count_yes a e, count_mono (suc a) b h)

  -- two numbers that pass, with the same count below them, are one
  pub count_injective : (a b : ℕ) → t a ≡ true → t b ≡ true → count_below t a ≡ count_below t b → a ≡ b
  count_injective a b ea eb q = go (dec_le a b) (dec_le b a)
    where
      go : Dec (a ≤ b) → Dec (b ≤ a) → a ≡ b
      go (yes h) (yes k) = omega arith
      go (yes h) (no k) = let l = count_above a b ea (omega arith) in absurd (omega arith)
      go (no h) k = let l = count_above b a eb (omega arith) in absurd (omega arith)

  -- where one number passes, any two that do are one
  pub count_one : (n a b : ℕ) → count_below t n ≡ 1 → t a ≡ true → t b ≡ true → a < n → b < n → a ≡ b
  count_one n a b q ea eb la lb =
      let ca = count_above a n ea la in
      let cb = count_above b n eb lb in
      count_injective a b ea eb (omega arith)

  -- where a alone passes, the count is 1
  pub count_only : (n a : ℕ) → a < n → t a ≡ true → ((b : ℕ) → b < n → b ≢ a → t b ≡ false) → count_below t n ≡ 1
  unfolding count_below
  count_only n a h e f = sum_one n (λ k. cond (t k) 1 0) a h (λ b l d. rw (f b l d)) ∙ rw e

pub count_same : (s t : ℕ → Bool) (n : ℕ) → ((k : ℕ) → k < n → s k ≡ t k) → count_below s n ≡ count_below t n
unfolding count_below
count_same s t n h = sum_ext n _ _ (λ k l. ap (λ (b : Bool). cond b 1 0) (h k l))

-- each number below n passes a test or its negation
count_not : (t : ℕ → Bool) (n : ℕ) → count_below t n + count_below (λ k. not (t k)) n ≡ n
unfolding sum count_below
count_not t zero = refl
count_not t (suc n) = go (t n) refl (count_not t n)
  where
    go : (b : Bool) → t n ≡ b → count_below t n + count_below (λ k. not (t k)) n ≡ n → count_below t (suc n) + count_below (λ k. not (t k)) (suc n) ≡ suc n
    go true e ih = omega (arith, count_yes t n e, count_no (λ k. not (t k)) n (ap not e))
    go false e ih = omega (arith, count_no t n e, count_yes (λ k. not (t k)) n (ap not e))

-- one number at most is e
pub count_value : (e n : ℕ) → count_below (eqb e) n ≤ 1
unfolding count_below
count_value e n = go (dec_lt e n)
  where
    other : (j : ℕ) → (e ≡ j → ⊥) → ◌≡◌ {A = ℕ} (cond (eqb e j) 1 0) 0
    other j q = rw (ne_eqb e j q)

    go : Dec (e < n) → sum n (λ j. cond (eqb e j) 1 0) ≤ 1
    go (yes l) = omega (arith, sum_one n (λ j. cond (eqb e j) 1 0) e l (λ j b q. other j (λ r. q (sym r))), one_at_most (eqb e e))
    go (no l) = omega (arith, sum_zero n (λ j. cond (eqb e j) 1 0) (λ j b. other j (λ r. omega arith)))

-- ---- one number less passes

abbrev without : (ℕ → Bool) → ℕ → ℕ → Bool
without d j k = d k && not (eqb k j)

and_last : (a : Bool) → (a && true ≡ a) × (a && false ≡ false)
and_last true = (refl, refl)
and_last false = (refl, refl)

without_other : (d : ℕ → Bool) (j k : ℕ) → (k ≡ j → ⊥) → without d j k ≡ d k
without_other d j k q = rw (ne_eqb k j q) (and_last (d k)).0

without_same : (d : ℕ → Bool) (j k : ℕ) → k ≡ j → without d j k ≡ false
without_same d j k q = rw (eq-eqb k j q) (and_last (d k)).1

count_without : (d : ℕ → Bool) (j m : ℕ) → j < m → d j ≡ true → count_below (without d j) m + 1 ≡ count_below d m
count_without d j zero h e = absurd (omega arith)
count_without d j (suc m) h e = go (ℕ_discrete m j) (count_without d j m)
  where
    go : Dec (m ≡ j) → (j < m → d j ≡ true → count_below (without d j) m + 1 ≡ count_below d m) → count_below (without d j) (suc m) + 1 ≡ count_below d (suc m)
    go (yes q) ih = omega (arith, count_no (without d j) m (without_same d j m q), count_yes d m (ap d q ∙ e), count_same (without d j) d m (λ k l. without_other d j k (λ r. omega arith)))
    go (no q) ih = step (d m) refl
      where
        step : (b : Bool) → d m ≡ b → count_below (without d j) (suc m) + 1 ≡ count_below d (suc m)
        step true f = omega (arith, ih (omega arith) e, count_yes d m f, count_yes (without d j) m (without_other d j m q ∙ f))
        step false f = omega (arith, ih (omega arith) e, count_no d m f, count_no (without d j) m (without_other d j m q ∙ f))

-- ---- an injection from the numbers below n that pass c to those below m that pass d

module _ (f : ℕ → ℕ) (m : ℕ) (c : ℕ → Bool) where
  pub count_inject : (n : ℕ) (d : ℕ → Bool) → ((e : ℕ) → e < n → c e ≡ true → (f e < m) × (d (f e) ≡ true)) → ((a b : ℕ) → a < n → b < n → f a ≡ f b → a ≡ b) → count_below c n ≤ count_below d m
  unfolding sum count_below
  count_inject zero d to one = omega arith
  count_inject (suc n) d to one = go (c n) refl (λ g to'. count_inject n g to' (λ a b h k. one a b (omega arith) (omega arith)))
    where
      go : (b : Bool) → c n ≡ b → ((g : ℕ → Bool) → ((e : ℕ) → e < n → c e ≡ true → (f e < m) × (g (f e) ≡ true)) → count_below c n ≤ count_below g m) → count_below c (suc n) ≤ count_below d m
      go true e ih =
          let here = to n (omega arith) e in
          let rest = ih (without d (f n)) (λ k h q. ((to k (omega arith) q).0, without_other d (f n) (f k) (λ r. let z : k ≡ n = one k n (omega arith) (omega arith) r in omega arith) ∙ (to k (omega arith) q).1)) in
          omega (arith, count_yes c n e, count_without d (f n) m here.0 here.1)
      go false e ih = omega (arith, count_no c n e, ih d (λ k h q. to k (omega arith) q))

-- ---- a test that f takes from yes to no, where f is an injection of the numbers below n

module _ (f : ℕ → ℕ) (n : ℕ) (t : ℕ → Bool) (below : (e : ℕ) → e < n → f e < n) (one : (a b : ℕ) → a < n → b < n → f a ≡ f b → a ≡ b) (other : (e : ℕ) → e < n → t e ≡ true → t (f e) ≡ false) where
  -- at most half of them pass
  pub count_half : 2 * count_below t n ≤ n
  count_half = omega (arith, count_not t n, count_inject f n t n (λ k. not (t k)) (λ e h q. (below e h, ap not (other e h q))) one)

  -- and at one that passes there is room for two more
  pub count_room : (e : ℕ) → e < n → t e ≡ true → 2 * count_below t e + 2 ≤ n
  count_room e h q = omega (arith, count_half, count_yes t e q, count_mono t (suc e) n h)
