-- `rem_pio2` and `rem_pio2_medium` of src/math.rs: x less a multiple of half pi, in two parts, with the signed multiple.
use Rattle.std.specs.Prelude.{ℕ, ◌+◌, ◌/◌, ◌%◌, cond, leb, ltb, eqb, ℤ, pos, negsuc, ◌-ℤ◌, ◌+ℤ◌, Float}
use Rattle.std.specs.Float.Ieee.{lt, neg}
use Rattle.float.specs.Ops.{◌⊕◌, ◌⊖◌, ◌⊗◌, ◌⊘◌, zero, one, two, three, four}
use Rattle.float.specs.F64.{bits_of, to_i32, round_of}
use Rattle.math.specs.declared.RemPio2.{RemPio2}
use Rattle.math.specs.declared.Multiple.{Multiple}
use Rattle.math.specs.declared.Remainder.{Remainder}
use Rattle.math.specs.Kernels.{abs_high_word, sign_bit}
use Rattle.math.specs.Consts.{toint, pio4, invpio2, half_pi, pio2_1, pio2_1t, pio2_2, pio2_2t, pio2_3, pio2_3t}

-- ---- the medium range: `rem_pio2_medium`

-- `n -= 1` and `n += 1` on an i32 wrap around, as in the Rust built for release. In the medium range |n| stays below 2 ^ 21, and neither does.
unfoldable pub pred_i32 : ℤ → ℤ
pred_i32 (pos k) = pos k -ℤ pos 1
pred_i32 (negsuc k) = cond (eqb k 0x7fff_ffff) (pos 0x7fff_ffff) (negsuc k -ℤ pos 1)

unfoldable pub succ_i32 : ℤ → ℤ
succ_i32 (pos k) = cond (eqb k 0x7fff_ffff) (negsuc 0x7fff_ffff) (pos k +ℤ pos 1)
succ_i32 (negsuc k) = negsuc k +ℤ pos 1

-- `r` and `w` at the multiple fn_, from the first digits of half pi
unfoldable pub first_remainder : Float → Float → Remainder
first_remainder x fn = record { r = x ⊖ fn ⊗ pio2_1; w = fn ⊗ pio2_1t }

-- `r` and `w` from further digits: what is left of t after fn_ * p, where rest stands for the digits after p
unfoldable pub next_remainder : Float → Float → Float → Float → Remainder
next_remainder t fn p rest = record { r = t ⊖ fn ⊗ p; w = fn ⊗ rest ⊖ (t ⊖ (t ⊖ fn ⊗ p) ⊖ fn ⊗ p) }

-- `r - w`
unfoldable pub remainder_value : Remainder → Float
remainder_value s = s.r ⊖ s.w

-- `(x.to_bits() >> 52) & 0x7ff`
unfoldable pub exponent_field : Float → ℕ
exponent_field x = bits_of x / 0x10_0000_0000_0000 % 0x800

-- `n` and `fn_`
unfoldable pub nearest_multiple : Float → Multiple
nearest_multiple x =
    let f = x ⊗ invpio2 ⊕ toint ⊖ toint in
    let d = remainder_value (first_remainder x f) in
    cond (lt d (neg pio4)) (record { n = pred_i32 (to_i32 f); f = f ⊖ one })
    (cond (lt pio4 d) (record { n = succ_i32 (to_i32 f); f = f ⊕ one })
    (record { n = to_i32 f; f = f }))

-- The last `r` and `w`. The Rust's tests `ex - ey > 16` and `ex - ey2 > 49` are here `ey + 16 < ex` and `ey2 + 49 < ex`.
unfoldable pub last_remainder : Float → ℕ → Float → Remainder
last_remainder x ix fn =
    let ex = ix / 0x10_0000 in
    let a = first_remainder x fn in
    let b = next_remainder a.r fn pio2_2 pio2_2t in
    let c = next_remainder b.r fn pio2_3 pio2_3t in
    cond (ltb (exponent_field (remainder_value a) + 16) ex) (cond (ltb (exponent_field (remainder_value b) + 49) ex) c b) a

-- `n`, `y[0]` and `y[1]`
unfoldable pub reduced_of : ℤ → Remainder → RemPio2
reduced_of n s = record { n = n; y0 = remainder_value s; y1 = s.r ⊖ remainder_value s ⊖ s.w }

unfoldable pub rem_pio2_medium : Float → ℕ → RemPio2
rem_pio2_medium x ix = reduced_of (nearest_multiple x).n (last_remainder x ix (nearest_multiple x).f)

-- ---- near one to four quarter turns, either sign

-- n quarter turns taken off x: p and t are n times PIO2_1 and PIO2_1T
unfoldable pub subtract_multiple : ℤ → Float → Float → Float → RemPio2
subtract_multiple n x p t = record { n = n; y0 = x ⊖ p ⊖ t; y1 = x ⊖ p ⊖ (x ⊖ p ⊖ t) ⊖ t }

-- -n quarter turns taken off a negative x
unfoldable pub add_multiple : ℤ → Float → Float → Float → RemPio2
add_multiple n x p t = record { n = n; y0 = x ⊕ p ⊕ t; y1 = x ⊕ p ⊖ (x ⊕ p ⊕ t) ⊕ t }

-- either, by the sign of x
unfoldable pub multiple_by_sign : ℤ → ℤ → Float → Float → Float → RemPio2
multiple_by_sign n -n x p t = cond (sign_bit x) (add_multiple -n x p t) (subtract_multiple n x p t)

-- `ix` at most 0x400f_6a7a, |x| about 5 pi / 4
unfoldable pub rem_pio2_near : Float → ℕ → RemPio2
rem_pio2_near x ix =
    cond (eqb (ix % 0x10_0000) 0x9_21fb) (rem_pio2_medium x ix)
    (cond (leb ix 0x4002_d97c) (multiple_by_sign (pos 1) (negsuc 0) x pio2_1 pio2_1t)
    (multiple_by_sign (pos 2) (negsuc 1) x (two ⊗ pio2_1) (two ⊗ pio2_1t)))

-- `ix` at most 0x401c_463b, |x| about 9 pi / 4
unfoldable pub rem_pio2_far : Float → ℕ → RemPio2
rem_pio2_far x ix =
    cond (leb ix 0x4015_fdbc)
    (cond (eqb ix 0x4012_d97c) (rem_pio2_medium x ix) (multiple_by_sign (pos 3) (negsuc 2) x (three ⊗ pio2_1) (three ⊗ pio2_1t)))
    (cond (eqb ix 0x4019_21fb) (rem_pio2_medium x ix) (multiple_by_sign (pos 4) (negsuc 3) x (four ⊗ pio2_1) (four ⊗ pio2_1t)))

-- ---- the rest

-- `ix` from 0x4139_21fb on: one rounded multiple of half pi taken off, as in the Rust
unfoldable pub rem_pio2_large : Float → RemPio2
rem_pio2_large x =
    let quotient = round_of (x ⊘ half_pi) in
    record { n = to_i32 quotient; y0 = x ⊖ quotient ⊗ half_pi; y1 = zero }

-- `rem_pio2`
unfoldable pub rem_pio2 : Float → RemPio2
rem_pio2 x =
    let ix = abs_high_word x in
    cond (leb ix 0x400f_6a7a) (rem_pio2_near x ix)
    (cond (leb ix 0x401c_463b) (rem_pio2_far x ix)
    (cond (ltb ix 0x4139_21fb) (rem_pio2_medium x ix)
    (cond (leb 0x7ff0_0000 ix) (record { n = pos 0; y0 = x ⊖ x; y1 = x ⊖ x }) (rem_pio2_large x))))
