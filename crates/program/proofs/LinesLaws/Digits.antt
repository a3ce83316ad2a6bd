-- The laws of decimal and hexadecimal digits, and how many there are. Assumes nothing.
use Prim.Native.Nat.{ℕ, zero, suc, ◌+◌, ◌*◌, ◌/◌, ◌%◌, ◌^◌, ◌<◌, ◌≤◌}
use native.Mathlib.Nat.{pow-suc}
use native.Mathlib.Omega.{arith}
use mathlib.Core.Path.{◌≡◌, refl, sym, ap, ◌∙◌}
use mathlib.Core.Bool.{Bool, true, false}
use mathlib.Core.List.{List, ◌∷◌, ◌++◌}
use borrow.Author.Tests.{lt-ltb, le-ltb, ltb-true, ltb-false}
use lib.Dec.{ltb}
use lib.ListN.{length, length-append}
use Rattle.std.specs.Fmt.{decimal as shortest}
use Rattle.std.proofs.lemmas.Fmt.{decimal_by_steps}
use Rattle.std.specs.List.{slice_index}
use borrow.Author.Count.{below_none, below_more}
use Rattle.std.specs.Int.{w64, to_be_bytes}
use Rattle.hex.specs.Hex.{lower_digits, encode_with, encode_lower}
use Rattle.program.specs.Lines.Text.{byte, decimal_up_to, decimal, hex_digit, hex_up_to, hex}

-- ---- decimal

one_digit : (k n : ℕ) → n < 10 → byte (48 + n) ≡ decimal_up_to (suc k) n
unfolding decimal_up_to
one_digit k n h = rw (decimal_up_to, lt-ltb n 10 h)

more_digits : (k n : ℕ) → 10 ≤ n → decimal_up_to k (n / 10) ++ byte (48 + n % 10) ≡ decimal_up_to (suc k) n
unfolding decimal_up_to
more_digits k n h = rw (decimal_up_to, le-ltb n 10 h)

-- by the number of digits, one or more
by_digits : {C : Type 0} (n : ℕ) → (n < 10 → C) → (10 ≤ n → C) → C
by_digits {C} n f g = tested (ltb n 10) refl
  where
    tested : (b : Bool) → ltb n 10 ≡ b → C
    tested true e = f (ltb-true n 10 e)
    tested false e = g (ltb-false n 10 e)

at_most : (k n : ℕ) → length (decimal_up_to k n) ≤ k
unfolding decimal_up_to
at_most zero n = omega arith
at_most (suc k) n =
    by_digits n
    (λ h. rw (← one_digit k n h) (omega arith))
    (λ h. rw (← more_digits k n h, length-append) (omega (arith, at_most k (n / 10))))

-- a place more changes nothing
enough : (k n : ℕ) → n < 10 ^ suc k → decimal_up_to (suc k) n ≡ decimal_up_to (suc (suc k)) n
enough zero n h = sym (one_digit 0 n h) ∙ one_digit 1 n h
enough (suc k) n h =
    let l : n < 10 ^ suc k * 10 = rw pow-suc at h in
    by_digits n
    (λ s. sym (one_digit (suc k) n s) ∙ one_digit (suc (suc k)) n s)
    (λ s. sym (more_digits (suc k) n s) ∙ ap (λ (x : List ℕ). x ++ byte (48 + n % 10)) (enough k (n / 10) (omega arith)) ∙ more_digits (suc (suc k)) n s)

decimal_small : (n : ℕ) → n < 10 → byte (48 + n) ≡ decimal n
unfolding decimal
decimal_small n h = one_digit 19 n h

decimal_large : (n : ℕ) → 10 ≤ n → n < 2 ^ 64 → decimal (n / 10) ++ byte (48 + n % 10) ≡ decimal n
unfolding decimal
decimal_large n h l = rw (← enough 18 (n / 10) (omega arith)) (more_digits 19 n h)

-- what `itoa` writes
pub decimal_is : (n : ℕ) → n < 2 ^ 64 → shortest n ≡ decimal n
decimal_is n h =
    decimal_by_steps (λ m ds. m < 2 ^ 64 → ds ≡ decimal m)
    (λ m s l. decimal_small m s)
    (λ m ds s e l. rw (e (omega arith)) (decimal_large m s l))
    n h h

pub decimal_length : (n : ℕ) → length (decimal n) ≤ 20
unfolding decimal
decimal_length n = at_most 20 n

-- ---- hexadecimal

-- the digits in the table of `hex`
table_digit : (d : ℕ) → d < 16 → slice_index lower_digits d ≡ hex_digit d
unfolding hex_digit
table_digit =
    let P : ℕ → Type 0 = λ d. slice_index lower_digits d ≡ hex_digit d in
    below_more P 15 (below_more P 14 (below_more P 13 (below_more P 12 (below_more P 11 (below_more P 10 (below_more P 9 (below_more P 8 (below_more P 7 (below_more P 6 (below_more P 5 (below_more P 4 (below_more P 3 (below_more P 2 (below_more P 1 (below_more P 0 (below_none P) refl) refl) refl) refl) refl) refl) refl) refl) refl) refl) refl) refl) refl) refl) refl) refl

-- the two digits of a byte, before those of the bytes below it
two_digits : (m d e : ℕ) {xs ys : List ℕ} → xs ≡ ys → m % 256 / 16 ≡ d % 16 → m % 256 % 16 ≡ e % 16 →
    slice_index lower_digits (m % 256 / 16) ∷ slice_index lower_digits (m % 256 % 16) ∷ xs ≡ hex_digit (d % 16) ∷ hex_digit (e % 16) ∷ ys
two_digits m d e same high low = rw (same, high, low, table_digit (d % 16) (omega arith), table_digit (e % 16) (omega arith))

-- what `hex` writes
pub hex_is : (n : ℕ) → encode_lower (to_be_bytes w64 n) ≡ hex n
unfolding hex hex_up_to encode_with
hex_is n =
    two_digits (n / 2 ^ 56) (n / 2 ^ 60) (n / 2 ^ 56)
    (two_digits (n / 2 ^ 48) (n / 2 ^ 52) (n / 2 ^ 48)
    (two_digits (n / 2 ^ 40) (n / 2 ^ 44) (n / 2 ^ 40)
    (two_digits (n / 2 ^ 32) (n / 2 ^ 36) (n / 2 ^ 32)
    (two_digits (n / 2 ^ 24) (n / 2 ^ 28) (n / 2 ^ 24)
    (two_digits (n / 2 ^ 16) (n / 2 ^ 20) (n / 2 ^ 16)
    (two_digits (n / 2 ^ 8) (n / 2 ^ 12) (n / 2 ^ 8)
    (two_digits n (n / 2 ^ 4) (n / 2 ^ 0) refl (omega arith) (omega arith)) (omega arith) (omega arith)) (omega arith) (omega arith)) (omega arith) (omega arith)) (omega arith) (omega arith)) (omega arith) (omega arith)) (omega arith) (omega arith)) (omega arith) (omega arith)

hex_count : (n k : ℕ) → length (hex_up_to n k) ≡ k
unfolding hex_up_to
hex_count n zero = refl
hex_count n (suc k) = rw (length-append, hex_count n k) (omega arith)

pub hex_length : (n : ℕ) → length (hex n) ≡ 16
unfolding hex
hex_length n = hex_count n 16
