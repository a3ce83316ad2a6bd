-- Two laws of floats: a sum is the same either way round, and so is the square of a difference, whose sign alone turns. Assumes nothing.
use Prim.Native.Nat.{ℕ, zero, suc, ◌+◌, ◌-◌, ◌*◌, ◌^◌}
use native.Mathlib.Nat.{add_comm, mul_comm}
use native.Mathlib.Omega.{arith}
use mathlib.Core.Path.{◌≡◌, refl, sym, ap, ◌∙◌}
use mathlib.Core.Bool.{Bool, true, false, not, cond, ◌&&◌, beq}
use borrow.Author.Tests.{ltb-true, ltb-false}
use lib.Dec.{ltb}
use lib.Ieee.{Float, nan, inf, fin, Format, up, down, prec, low, emax, odd, units, round, neg, sum, add, sub, mul}
use Rattle.linalg.specs.declared.Vec3.{Vec3}
use Rattle.linalg.specs.Vec.{add3, sub3, dot_of}

-- ---- a sum

sum_flip : (f : Format) (s : Bool) (a : ℕ) (t : Bool) (b c : ℕ) → sum f s a t b c ≡ sum f t b s a c
unfolding sum
sum_flip f true a true b c = ap (λ (x : ℕ). round f true x c) (add_comm a b)
sum_flip f false a false b c = ap (λ (x : ℕ). round f false x c) (add_comm a b)
sum_flip f true a false b c = go (ltb a b) (ltb b a) refl refl
  where
    go : (p q : Bool) → ltb a b ≡ p → ltb b a ≡ q → cond p (round f false (b - a) c) (round f q (a - b) c) ≡ cond q (round f true (a - b) c) (round f false (b - a) c)
    go true true l m = absurd (omega (arith, ltb-true a b l, ltb-true b a m))
    go true false l m = refl
    go false true l m = refl
    go false false l m = ap (λ (x : ℕ). round f false x c) (let z : a - b ≡ b - a = omega (arith, ltb-false a b l, ltb-false b a m) in z)
sum_flip f false a true b c = go (ltb a b) (ltb b a) refl refl
  where
    go : (p q : Bool) → ltb a b ≡ p → ltb b a ≡ q → cond p (round f true (b - a) c) (round f false (a - b) c) ≡ cond q (round f false (a - b) c) (round f p (b - a) c)
    go true true l m = absurd (omega (arith, ltb-true a b l, ltb-true b a m))
    go true false l m = refl
    go false true l m = refl
    go false false l m = ap (λ (x : ℕ). round f false x c) (let z : a - b ≡ b - a = omega (arith, ltb-false a b l, ltb-false b a m) in z)

pub add_flip : (f : Format) (x y : Float) → add f x y ≡ add f y x
unfolding add
add_flip f nan nan = refl
add_flip f nan (inf t) = refl
add_flip f nan (fin t n d) = refl
add_flip f (inf s) nan = refl
add_flip f (inf true) (inf true) = refl
add_flip f (inf true) (inf false) = refl
add_flip f (inf false) (inf true) = refl
add_flip f (inf false) (inf false) = refl
add_flip f (inf s) (fin t n d) = refl
add_flip f (fin s m e) nan = refl
add_flip f (fin s m e) (inf t) = refl
add_flip f (fin s m e) (fin t n d) =
    sum_flip f s (m * up e * down d) t (n * up d * down e) (down e * down d)
    ∙ ap (sum f t (n * up d * down e) s (m * up e * down d)) (mul_comm (down e) (down d))

-- ---- the square of a difference

-- a float without its sign
abs : Float → Float
abs nan = nan
abs (inf s) = inf false
abs (fin s m e) = fin false m e

abs_odd : (d : ℕ) (s : Bool) (q k l : ℕ) → abs (odd d s q k l) ≡ odd d false q k l
unfolding odd abs
abs_odd d s zero k l = refl
abs_odd d s (suc q) k l = refl

abs_units : (f : Format) (s : Bool) (q k : ℕ) → abs (units f s q k) ≡ units f false q k
unfolding units abs
abs_units f s q k = go (ltb (q * 2 ^ k) (2 ^ (low f + suc (emax f))))
  where
    go : (b : Bool) → abs (cond b (odd (suc (prec f)) s q k (low f)) (inf s)) ≡ cond b (odd (suc (prec f)) false q k (low f)) (inf false)
    go true = abs_odd (suc (prec f)) s q k (low f)
    go false = refl

abs_round : (f : Format) (s : Bool) (num den : ℕ) → abs (round f s num den) ≡ round f false num den
unfolding round
abs_round f s num den = abs_units f s _ _

-- how far apart two numbers are
abbrev gap : ℕ → ℕ → ℕ
gap a b = a - b + (b - a)

abs_sum : (f : Format) (s : Bool) (a : ℕ) (t : Bool) (b c : ℕ) → abs (sum f s a t b c) ≡ cond (beq s t) (round f false (a + b) c) (round f false (gap a b) c)
unfolding sum
abs_sum f s a t b c = same (beq s t)
  where
    apart : (p : Bool) → ltb a b ≡ p → abs (cond p (round f t (b - a) c) (round f (s && ltb b a) (a - b) c)) ≡ round f false (gap a b) c
    apart true l = abs_round f t (b - a) c ∙ ap (λ (x : ℕ). round f false x c) (let z : b - a ≡ gap a b = omega (arith, ltb-true a b l) in z)
    apart false l = abs_round f (s && ltb b a) (a - b) c ∙ ap (λ (x : ℕ). round f false x c) (let z : a - b ≡ gap a b = omega (arith, ltb-false a b l) in z)

    same : (p : Bool) → abs (cond p (round f s (a + b) c) (cond (ltb a b) (round f t (b - a) c) (round f (s && ltb b a) (a - b) c))) ≡ cond p (round f false (a + b) c) (round f false (gap a b) c)
    same true = abs_round f s (a + b) c
    same false = apart (ltb a b) refl

signs_flip : (s t : Bool) → beq s (not t) ≡ beq t (not s)
signs_flip true true = refl
signs_flip true false = refl
signs_flip false true = refl
signs_flip false false = refl

abs_difference : (f : Format) (s : Bool) (a : ℕ) (t : Bool) (b c : ℕ) → abs (sum f s a (not t) b c) ≡ abs (sum f t b (not s) a c)
abs_difference f s a t b c =
    rw (abs_sum f s a (not t) b c, abs_sum f t b (not s) a c, signs_flip s t, add_comm a b, add_comm (a - b) (b - a))

abs_sub : (f : Format) (x y : Float) → abs (sub f x y) ≡ abs (sub f y x)
unfolding sub add neg abs
abs_sub f nan nan = refl
abs_sub f nan (inf t) = refl
abs_sub f nan (fin t n d) = refl
abs_sub f (inf s) nan = refl
abs_sub f (inf true) (inf true) = refl
abs_sub f (inf true) (inf false) = refl
abs_sub f (inf false) (inf true) = refl
abs_sub f (inf false) (inf false) = refl
abs_sub f (inf s) (fin t n d) = refl
abs_sub f (fin s m e) nan = refl
abs_sub f (fin s m e) (inf t) = refl
abs_sub f (fin s m e) (fin t n d) =
    abs_difference f s (m * up e * down d) t (n * up d * down e) (down e * down d)
    ∙ ap (λ (c : ℕ). abs (sum f t (n * up d * down e) (not s) (m * up e * down d) c)) (mul_comm (down e) (down d))

-- a square has no sign
square_abs : (f : Format) (x : Float) → mul f x x ≡ mul f (abs x) (abs x)
unfolding mul abs
square_abs f nan = refl
square_abs f (inf true) = refl
square_abs f (inf false) = refl
square_abs f (fin true m e) = refl
square_abs f (fin false m e) = refl

square_sub : (f : Format) (x y : Float) → mul f (sub f x y) (sub f x y) ≡ mul f (sub f y x) (sub f y x)
square_sub f x y =
    square_abs f (sub f x y) ∙ ap (λ (z : Float). mul f z z) (abs_sub f x y) ∙ sym (square_abs f (sub f y x))

-- ---- the same of vectors

pub add3_flip : (a b : Vec3) → add3 a b ≡ add3 b a
unfolding add3
add3_flip a b = rw (add_flip _ a.x b.x, add_flip _ a.y b.y, add_flip _ a.z b.z)

pub dot_sub3 : (a b : Vec3) → dot_of (sub3 a b) (sub3 a b) ≡ dot_of (sub3 b a) (sub3 b a)
unfolding dot_of sub3
dot_sub3 a b = rw (square_sub _ a.x b.x, square_sub _ a.y b.y, square_sub _ a.z b.z)
