-- A negated operand: rounding to nearest is symmetric, so a product with a negated factor is the negated product, a quotient
-- of a negated number the negated quotient, and a difference with a negated number the sum. Zeros, infinities and
-- not-a-numbers are among the numbers. Assumes nothing.
use Rattle.std.proofs.Common.{◌≡◌, ℕ, zero, suc, ◌*◌, Bool, true, false, not, cond, eqb, refl, ap, pos, negsuc}
use lib.Ieee.{Float, Format, nan, inf, fin, binary64, odd, units, round, neg, sub, mul, div, of_int, unlike, up, down}
use Rattle.float.specs.Ops.{◌⊕◌, ◌⊖◌, ◌⊗◌, ◌⊘◌}

unlike_not : (s t : Bool) → unlike (not s) t ≡ not (unlike s t)
unlike_not true true = refl
unlike_not true false = refl
unlike_not false true = refl
unlike_not false false = refl

odd_neg : (d : ℕ) (s : Bool) (q k l : ℕ) → odd d (not s) q k l ≡ neg (odd d s q k l)
unfolding odd neg
odd_neg d s zero k l = refl
odd_neg d s (suc q) k l = refl

neg_cond : (b : Bool) (x y : Float) → cond b (neg x) (neg y) ≡ neg (cond b x y)
neg_cond true x y = refl
neg_cond false x y = refl

inf_neg : (s : Bool) → inf (not s) ≡ neg (inf s)
unfolding neg
inf_neg s = refl

units_neg : (f : Format) (s : Bool) (q k : ℕ) → units f (not s) q k ≡ neg (units f s q k)
unfolding units
units_neg f s q k = rw (odd_neg, inf_neg) (neg_cond _ _ _)

pub round_neg : (f : Format) (s : Bool) (n d : ℕ) → round f (not s) n d ≡ neg (round f s n d)
unfolding round
round_neg f s n d = units_neg f s _ _

neg_no_number : (f : Format) (s : Bool) (b : Bool) → cond b nan (inf (not s)) ≡ neg (cond b nan (inf s))
unfolding neg
neg_no_number f s true = refl
neg_no_number f s false = refl

-- a product with a negated factor is the negated product
pub neg_mul : (x y : Float) → neg x ⊗ y ≡ neg (x ⊗ y)
unfolding neg mul
neg_mul nan y = refl
neg_mul (inf s) nan = refl
neg_mul (inf s) (inf t) = ap inf (unlike_not s t)
neg_mul (inf s) (fin t n d) = rw (unlike_not s t) (neg_no_number binary64 (unlike s t) (eqb n 0))
neg_mul (fin s m e) nan = refl
neg_mul (fin s m e) (inf t) = rw (unlike_not s t) (neg_no_number binary64 (unlike s t) (eqb m 0))
neg_mul (fin s m e) (fin t n d) = rw (unlike_not s t) (round_neg binary64 (unlike s t) (m * up e * (n * up d)) (down e * down d))

-- a quotient of a negated number is the negated quotient
pub neg_div : (x y : Float) → neg x ⊘ y ≡ neg (x ⊘ y)
unfolding div neg
neg_div nan y = refl
neg_div (inf s) nan = refl
neg_div (inf s) (inf t) = refl
neg_div (inf s) (fin t n d) = rw (unlike_not s t)
neg_div (fin s m e) nan = refl
neg_div (fin s m e) (inf t) = rw (unlike_not s t)
neg_div (fin s m e) (fin t n d) = rw (unlike_not s t) (go (eqb n 0) (eqb m 0))
  where
    go : (a b : Bool)
        → cond a (cond b nan (inf (not (unlike s t)))) (round binary64 (not (unlike s t)) (m * up e * down d) (n * up d * down e))
        ≡ neg (cond a (cond b nan (inf (unlike s t))) (round binary64 (unlike s t) (m * up e * down d) (n * up d * down e)))
    go true true = refl
    go true false = refl
    go false b = round_neg binary64 (unlike s t) (m * up e * down d) (n * up d * down e)

neg_neg : (x : Float) → neg (neg x) ≡ x
unfolding neg
neg_neg nan = refl
neg_neg (inf true) = refl
neg_neg (inf false) = refl
neg_neg (fin true m e) = refl
neg_neg (fin false m e) = refl

-- a difference with a negated number is the sum
pub sub_neg : (x y : Float) → x ⊖ neg y ≡ x ⊕ y
unfolding sub
sub_neg x y = ap (λ (z : Float). x ⊕ z) (neg_neg y)

-- a negative whole number
pub of_int_neg : (n : ℕ) → of_int binary64 (negsuc n) ≡ neg (of_int binary64 (pos (suc n)))
unfolding of_int
of_int_neg n = round_neg binary64 false (suc n) 1
