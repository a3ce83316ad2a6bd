-- The eight branches of `rem_pio2` near one to four quarter turns are one expression in the signed number. Assumes nothing.
use Rattle.std.proofs.Common.{◌≡◌, ℕ, suc, ◌<◌, ◌%◌, Bool, true, false, cond, eqb, leb, ltb, refl, ℤ, pos, negsuc, arith, leb-true}
use Rattle.std.specs.Prelude.{Option, None, Some, unwrap_or, option_map}
use borrow.Author.Tests.{lt-ltb}
use lib.Ieee.{Float, binary64, neg, of_int, of_bits, mul}
use Rattle.float.specs.Ops.{◌⊖◌, ◌⊗◌, one, two, three, four}
use Rattle.float.proofs.Signs.{neg_mul, sub_neg, of_int_neg}
use Rattle.math.specs.declared.RemPio2.{RemPio2}
use Rattle.math.specs.Kernels.{abs_high_word, sign_bit}
use Rattle.math.specs.Consts.{pio2_1, pio2_1t}
use Rattle.math.specs.Rem.{first_remainder, remainder_value, reduced_of, subtract_multiple, add_multiple, multiple_by_sign, rem_pio2_medium, rem_pio2_near, rem_pio2_far, rem_pio2_large, rem_pio2}
use Rattle.math.specs.Turns.{near_turns, far_turns, quarter_turns, signed_turns}

-- what `subtract_quarter_turns` gives
abbrev pub less_turns : ℤ → Float → RemPio2
less_turns k x = reduced_of k (first_remainder x (of_int binary64 k))

subtract_is : (k : ℤ) (x f : Float) → subtract_multiple k x (f ⊗ pio2_1) (f ⊗ pio2_1t) ≡ reduced_of k (first_remainder x f)
unfolding subtract_multiple reduced_of first_remainder remainder_value
subtract_is k x f = refl

-- what is added is taken off negated
add_is : (k : ℤ) (x f : Float) → add_multiple k x (f ⊗ pio2_1) (f ⊗ pio2_1t) ≡ reduced_of k (first_remainder x (neg f))
unfolding add_multiple reduced_of first_remainder remainder_value
add_is k x f = simp (neg_mul, sub_neg)

turns_is : (n : ℕ) (x f : Float) → of_int binary64 (pos (suc n)) ≡ f → multiple_by_sign (pos (suc n)) (negsuc n) x (f ⊗ pio2_1) (f ⊗ pio2_1t) ≡ less_turns (signed_turns (suc n) x) x
unfolding multiple_by_sign signed_turns
turns_is n x f e = go (sign_bit x)
  where
    go : (s : Bool)
        → cond s (add_multiple (negsuc n) x (f ⊗ pio2_1) (f ⊗ pio2_1t)) (subtract_multiple (pos (suc n)) x (f ⊗ pio2_1) (f ⊗ pio2_1t))
        ≡ less_turns (cond s (negsuc n) (pos (suc n))) x
    go true = rw (of_int_neg n, e) (add_is (negsuc n) x f)
    go false = rw (e) (subtract_is (pos (suc n)) x f)

-- the Rust's factors
factors : (of_int binary64 (pos 1) ≡ one) × (of_int binary64 (pos 2) ≡ two) × (of_int binary64 (pos 3) ≡ three) × (of_int binary64 (pos 4) ≡ four)
unfolding of_int of_bits
factors = (refl, refl, refl, refl)

-- the Rust writes no product for one quarter turn
one_mul : (one ⊗ pio2_1 ≡ pio2_1) × (one ⊗ pio2_1t ≡ pio2_1t)
unfolding mul of_bits
one_mul = (refl, refl)

one_is : (x : Float) → multiple_by_sign (pos 1) (negsuc 0) x pio2_1 pio2_1t ≡ less_turns (signed_turns 1 x) x
one_is x = rw (one_mul.0, one_mul.1) at (turns_is 0 x one factors.0)

-- ---- the ways of the tests

-- what a number of quarter turns leads to, and the rest where there is none
abbrev pub turns_or : Option ℕ → Float → RemPio2 → RemPio2
turns_or k x rest = unwrap_or (option_map (λ n. less_turns (signed_turns n x) x) k) rest

near_way : (x : Float) (ix : ℕ) → rem_pio2_near x ix ≡ turns_or (near_turns ix) x (rem_pio2_medium x ix)
unfolding rem_pio2_near near_turns
near_way x ix = go (eqb (ix % 0x10_0000) 0x9_21fb) (leb ix 0x4002_d97c)
  where
    go : (a b : Bool)
        → cond a (rem_pio2_medium x ix) (cond b (multiple_by_sign (pos 1) (negsuc 0) x pio2_1 pio2_1t) (multiple_by_sign (pos 2) (negsuc 1) x (two ⊗ pio2_1) (two ⊗ pio2_1t)))
        ≡ turns_or (cond a None (cond b (Some 1) (Some 2))) x (rem_pio2_medium x ix)
    go true b = refl
    go false true = one_is x
    go false false = turns_is 1 x two factors.1

far_way : (x : Float) (ix : ℕ) → rem_pio2_far x ix ≡ turns_or (far_turns ix) x (rem_pio2_medium x ix)
unfolding rem_pio2_far far_turns
far_way x ix = go (leb ix 0x4015_fdbc) (eqb ix 0x4012_d97c) (eqb ix 0x4019_21fb)
  where
    go : (a b c : Bool)
        → cond a (cond b (rem_pio2_medium x ix) (multiple_by_sign (pos 3) (negsuc 2) x (three ⊗ pio2_1) (three ⊗ pio2_1t)))
        (cond c (rem_pio2_medium x ix) (multiple_by_sign (pos 4) (negsuc 3) x (four ⊗ pio2_1) (four ⊗ pio2_1t)))
        ≡ turns_or (cond a (cond b None (Some 3)) (cond c None (Some 4))) x (rem_pio2_medium x ix)
    go true true c = refl
    go true false c = turns_is 2 x three factors.2
    go false b true = refl
    go false b false = turns_is 3 x four factors.3

within : (ix a : ℕ) → a < 0x4139_21fb → leb ix a ≡ true → ltb ix 0x4139_21fb ≡ true
within ix a l e = lt-ltb ix 0x4139_21fb (let h : ix < 0x4139_21fb = omega (arith, l, leb-true ix a e) in h)

-- the first tests of `rem_pio2`, in the order of the code
way : (x : Float) (ix : ℕ) (rest : RemPio2)
    → cond (leb ix 0x400f_6a7a) (rem_pio2_near x ix) (cond (leb ix 0x401c_463b) (rem_pio2_far x ix) (cond (ltb ix 0x4139_21fb) (rem_pio2_medium x ix) rest))
    ≡ turns_or (quarter_turns ix) x (cond (ltb ix 0x4139_21fb) (rem_pio2_medium x ix) rest)
unfolding quarter_turns
way x ix rest = go (leb ix 0x400f_6a7a) refl (leb ix 0x401c_463b) refl
  where
    go : (a : Bool) → leb ix 0x400f_6a7a ≡ a → (b : Bool) → leb ix 0x401c_463b ≡ b
        → cond a (rem_pio2_near x ix) (cond b (rem_pio2_far x ix) (cond (ltb ix 0x4139_21fb) (rem_pio2_medium x ix) rest))
        ≡ turns_or (cond a (near_turns ix) (cond b (far_turns ix) None)) x (cond (ltb ix 0x4139_21fb) (rem_pio2_medium x ix) rest)
    go true e b f = rw (within ix 0x400f_6a7a (omega arith) e) (near_way x ix)
    go false e true f = rw (within ix 0x401c_463b (omega arith) f) (far_way x ix)
    go false e false f = refl

pub rem_way : (x : Float) →
    rem_pio2 x ≡ (let ix = abs_high_word x in
    turns_or (quarter_turns ix) x
    (cond (ltb ix 0x4139_21fb) (rem_pio2_medium x ix)
    (cond (leb 0x7ff0_0000 ix) (record { n = pos 0; y0 = x ⊖ x; y1 = x ⊖ x }) (rem_pio2_large x))))
unfolding rem_pio2
rem_way x = way x (abs_high_word x) _
