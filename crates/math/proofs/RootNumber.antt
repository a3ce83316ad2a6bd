-- The root that `acos_positive` takes, of (1 - x) / 2 for an x from 0 to below 1, is a number: no step gives a negative number or a NaN. Assumes nothing.
use mathlib.Core.Path.{◌≡◌, sym, subst}
use mathlib.Core.Bool.{Bool, true, false, not, cond}
use Prim.Native.Nat.{ℕ, zero, suc, ◌+◌, ◌-◌, ◌*◌, ◌/◌, ◌%◌, ◌^◌, ◌≤◌, ◌<◌, compare}
use native.Mathlib.Nat.{le_trans, le_of_eq, lt_of_lt_of_le, le_of_mul-le-mul_right, mul-le-mul, mul-le-mul_right, mul_comm}
use native.Mathlib.Omega.{arith}
use borrow.Author.Tests.{le-ltb}
use lib.Dec.{T, ltb, lit≤, lit<}
use lib.Pow.{pow_mono}
use lib.Ieee.{Float, nan, inf, fin, Format, binary64, prec, emax, low, fits, is_nan, up, down, size, nearest, odd, units, round, sub, mul, of_bits, to_bits}
use lib.Ieee.Exact.{HasValue}
use lib.Ieee.Bits.{of_bits-to_bits}
use Rattle.float.specs.Ops.{◌⊖◌, ◌⊗◌, half, one}
use Rattle.sqrt.specs.Sqrt.{isqrt, round_root, square_root, sqrt_of}
use Rattle.sqrt.specs.Steps.{units_at, units_of}
use Rattle.sqrt.proofs.Encoding.{of_bits_value}

-- neither a NaN nor of negative sign
abbrev non_negative : Float → Bool
non_negative nan = false
non_negative (inf s) = not s
non_negative (fin s m e) = not s

either : (b : Bool) (x y : Float) → T (non_negative x) → T (non_negative y) → T (non_negative (cond b x y))
either true x y p q = p
either false x y p q = q

odd_non_negative : (d q k l : ℕ) → T (non_negative (odd d false q k l))
unfolding odd
odd_non_negative d zero k l = tt
odd_non_negative d (suc q) k l = tt

units_non_negative : (f : Format) (q k : ℕ) → T (non_negative (units f false q k))
unfolding units
units_non_negative f q k =
    either (ltb (q * 2 ^ k) (2 ^ (low f + suc (emax f)))) (odd (suc (prec f)) false q k (low f)) (inf false) (odd_non_negative (suc (prec f)) q k (low f)) tt

round_non_negative : (f : Format) (n d : ℕ) → T (non_negative (round f false n d))
unfolding round
round_non_negative f n d =
    let k = size (n * 2 ^ low f / d) - prec f in
    units_non_negative f (nearest (n * 2 ^ low f / (d * 2 ^ k)) (compare (n * 2 ^ low f % (d * 2 ^ k) * 2) (d * 2 ^ k))) k

-- ---- 1 - x, for an x of at most 1

units_le : (e t : ℕ) → e < 1023 → t < 2 ^ 52 → units_at e t ≤ 2 ^ 1074
units_le zero t h k = le_trans (let z : t ≤ 2 ^ 52 = omega arith in z) (lit≤ tt)
units_le (suc e) t h k = mul-le-mul (let z : 2 ^ 52 + t ≤ 2 ^ 53 = omega arith in z) (pow_mono (let z : e ≤ 1021 = omega arith in z))

value_le : (a u d C : ℕ) → 0 < C → a * C ≡ u * d → u ≤ C → a ≤ d
value_le a u d C p e h = le_of_mul-le-mul_right (le_trans (le_of_eq e) (le_trans (mul-le-mul_right d h) (le_of_eq (mul_comm C d)))) p

less : (x : Float) (u : ℕ) → HasValue x false u (2 ^ 1074) → u ≤ 2 ^ 1074 → T (non_negative (one ⊖ x))
unfolding sub of_bits
less nan u v h = absurd v
less (inf s) u v h = absurd v
less (fin true m e) u v h = round_non_negative binary64 (1 * down e + m * up e * 1) (1 * down e)
less (fin false m e) u v h =
    let l : m * up e ≤ down e = value_le (m * up e) u (down e) (2 ^ 1074) (lit< tt) v.1 h in
    subst (λ (b : Bool). T (non_negative (cond b (round binary64 true (m * up e * 1 - 1 * down e) (1 * down e)) (round binary64 false (1 * down e - m * up e * 1) (1 * down e)))))
    (sym (le-ltb (1 * down e) (m * up e * 1) (omega arith)))
    (round_non_negative binary64 (1 * down e - m * up e * 1) (1 * down e))

-- ---- half of it, and the root

halved : (y : Float) → T (non_negative y) → T (non_negative (y ⊗ half))
unfolding mul of_bits
halved nan h = h
halved (inf false) h = tt
halved (inf true) h = h
halved (fin false m e) h = round_non_negative binary64 (m * up e * 1) (down e * 2)
halved (fin true m e) h = absurd h

number : (y : Float) → T (non_negative y) → T (not (is_nan y))
unfolding is_nan
number nan h = h
number (inf s) h = tt
number (fin s m e) h = tt

rounded_root : (f : Format) (n : ℕ) → T (non_negative (round_root f n))
unfolding round_root
rounded_root f n =
    let k = size (isqrt n) - prec f in
    let q = isqrt n / 2 ^ k in
    let middle = (2 * q + 1) * 2 ^ k in
    units_non_negative f (nearest q (compare (4 * n) (middle * middle))) k

root : (y : Float) → T (non_negative y) → T (non_negative (sqrt_of y))
unfolding square_root
root nan h = h
root (inf false) h = tt
root (inf true) h = h
root (fin s zero e) h = h
root (fin false (suc m) e) h = rounded_root binary64 (suc m * up e * 2 ^ 1074 / down e * 2 ^ 1074)
root (fin true (suc m) e) h = h

-- x from 0 to below 1, by its bits
pub root_number : (x : Float) → T (fits binary64 x) → to_bits binary64 x < 0x3ff0_0000_0000_0000 → T (not (is_nan (sqrt_of ((one ⊖ x) ⊗ half))))
root_number x f h =
    let b = to_bits binary64 x in
    let v : HasValue x false (units_of b) (2 ^ 1074) = subst (λ (y : Float). HasValue y false (units_of b) (2 ^ 1074)) (of_bits-to_bits binary64 x f) (of_bits_value b (lt_of_lt_of_le h (lit≤ tt))) in
    number _ (root _ (halved _ (less x (units_of b) v (units_le (b / 2 ^ 52) (b % 2 ^ 52) (omega arith) (omega arith)))))
