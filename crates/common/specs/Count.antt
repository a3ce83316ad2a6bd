-- Sums over the numbers below n, and how many of them pass a test.
use Rattle.std.specs.Prelude.{ℕ, zero, suc, ◌+◌, Bool, cond}

-- f 0 + .. + f (n - 1)
unfoldable pub sum : ℕ → (ℕ → ℕ) → ℕ
sum zero f = 0
sum (suc n) f = sum n f + f n

-- how many of the numbers below n pass the test t
unfoldable pub count_below : (ℕ → Bool) → ℕ → ℕ
count_below t n = sum n (λ k. cond (t k) 1 0)
