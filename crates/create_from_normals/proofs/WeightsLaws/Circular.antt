-- The weight of a circular tangent, 1 + (d - 1) * (2 / 3) for a d of at least 1/2, has a clear sign bit: each rounding keeps what is at most 1 at most 1. Assumes nothing.
use Prim.Native.Nat.{ℕ, zero, suc, ◌+◌, ◌*◌, ◌-◌, ◌^◌, ◌≤◌, ◌<◌}
use native.Mathlib.Nat.{mul-le-mul, mul-pos}
use native.Mathlib.Omega.{arith}
use mathlib.Core.Path.{◌≡◌, refl, sym}
use mathlib.Core.Logic.{◌⊎◌, inl, inr}
use mathlib.Core.Bool.{Bool, true, false, cond, true≢false}
use lib.Dec.{T, ltb, lt→ltb, lit<, lit≤}
use borrow.Author.Tests.{le-ltb}
use lib.IntN.{pos, negsuc}
use lib.Ieee.{Float, nan, inf, fin, Format, binary64, prec, emax, low, up, down, odd, units, round, neg, sum, add, sub, mul, div, lt, le, eq, ne, of_bits}
use lib.Ieee.Fits.{round_is, down_pos}
use lib.Ieee.Positive.{le→cross}
use lib.Ieee.Order.{round_mono}
use Rattle.float.specs.Ops.{◌⊕◌, ◌⊖◌, ◌⊗◌, ◌⊘◌, half, one, two, three}
use Rattle.float.specs.F64.{max_of}
use Rattle.float.proofs.Signs.{round_neg}
use Rattle.linalg.specs.declared.Vec3.{Vec3}
use Rattle.questions.specs.Questions.{sign_clear}
use Rattle.smoothing.specs.Directions.{circular_tangent}

-- ---- the sign of a rounded number

odd_clear : (d q k l : ℕ) → sign_clear (odd d false q k l) ≡ true
unfolding odd sign_clear
odd_clear d zero k l = refl
odd_clear d (suc q) k l = refl

module _ (f : Format) where
  units_clear : (q k : ℕ) → sign_clear (units f false q k) ≡ true
  unfolding units sign_clear
  units_clear q k = go (ltb (q * 2 ^ k) (2 ^ (low f + suc (emax f))))
    where
      go : (b : Bool) → sign_clear (cond b (odd (suc (prec f)) false q k (low f)) (inf false)) ≡ true
      go true = odd_clear (suc (prec f)) q k (low f)
      go false = refl

  round_clear : (a c : ℕ) → sign_clear (round f false a c) ≡ true
  round_clear a c = rw (round_is f false a c) (units_clear _ _)

-- ---- the constants

abbrev unit : Float
unit = fin false 1 (pos 0)

is_unit : one ≡ unit
unfolding of_bits
is_unit = refl

abbrev two_thirds : Float
two_thirds = fin false 6004799503160661 (negsuc 52)

is_two_thirds : two ⊘ three ≡ two_thirds
unfolding of_bits div round
is_two_thirds = refl

-- ---- a number from -1 to -0

abbrev Small : Float → Type 0
Small nan = ⊥
Small (inf s) = ⊥
Small (fin true m e) = m * up e ≤ down e
Small (fin false m e) = ⊥

-- what is at most 1, negated
neg_small : (x : Float) → sign_clear x ≡ true → T (le x unit) → Small (neg x)
unfolding sign_clear le neg
neg_small nan s l = absurd (true≢false (sym s))
neg_small (inf true) s l = absurd (true≢false (sym s))
neg_small (inf false) s l = absurd l
neg_small (fin true m e) s l = absurd (true≢false (sym s))
neg_small (fin false zero e) s l = omega arith
neg_small (fin false (suc m) e) s l = omega (arith, le→cross (fin false (suc m) e) (fin false 1 (pos 0)) (lt→ltb 0 (suc m) (omega arith)) tt l)

round_one : round binary64 false 1 1 ≡ unit
unfolding round
round_one = refl

-- a fraction of at most 1, rounded
round_small : (a c : ℕ) → 0 < c → a ≤ c → Small (round binary64 true a c)
round_small a c p h =
    rw (round_neg binary64 false a c)
    (neg_small (round binary64 false a c) (round_clear binary64 a c) (rw round_one at (round_mono binary64 a c 1 1 p (omega arith) (omega arith))))

-- ---- the operations

-- the sign bit is clear, or the number is from -1 to -0
abbrev ClearOrSmall : Float → Type 0
ClearOrSmall x = (sign_clear x ≡ true) ⊎ Small x

sub_one : (x : Float) → sign_clear x ≡ true → ClearOrSmall (x ⊖ unit)
unfolding sign_clear sub neg add sum
sub_one nan s = absurd (true≢false (sym s))
sub_one (inf true) s = absurd (true≢false (sym s))
sub_one (inf false) s = inl refl
sub_one (fin true m e) s = absurd (true≢false (sym s))
sub_one (fin false m e) s = go (ltb (m * up e * 1) (1 * down e))
  where
    go : (b : Bool) → ClearOrSmall (cond b (round binary64 true (1 * down e - m * up e * 1) (down e * 1)) (round binary64 false (m * up e * 1 - 1 * down e) (down e * 1)))
    go true = inr (round_small (1 * down e - m * up e * 1) (down e * 1) (omega (arith, down_pos e)) (omega arith))
    go false = inl (round_clear binary64 (m * up e * 1 - 1 * down e) (down e * 1))

scaled : (x : Float) → ClearOrSmall x → ClearOrSmall (x ⊗ two_thirds)
unfolding sign_clear mul
scaled nan (inl s) = absurd (true≢false (sym s))
scaled nan (inr s) = absurd s
scaled (inf true) (inl s) = absurd (true≢false (sym s))
scaled (inf true) (inr s) = absurd s
scaled (inf false) w = inl refl
scaled (fin true m e) (inl s) = absurd (true≢false (sym s))
scaled (fin true m e) (inr s) = inr (round_small _ _ (mul-pos (down_pos e) (lit< tt)) (mul-le-mul s (lit≤ tt)))
scaled (fin false m e) w = inl (round_clear binary64 (m * up e * 6004799503160661) (down e * 2 ^ 53))

one_add : (x : Float) → ClearOrSmall x → sign_clear (unit ⊕ x) ≡ true
unfolding sign_clear add sum
one_add nan (inl s) = absurd (true≢false (sym s))
one_add nan (inr s) = absurd s
one_add (inf true) (inl s) = absurd (true≢false (sym s))
one_add (inf true) (inr s) = absurd s
one_add (inf false) w = refl
one_add (fin true m e) (inl s) = absurd (true≢false (sym s))
one_add (fin true m e) (inr s) = rw (le-ltb (1 * down e) (m * up e * 1) (omega arith)) (round_clear binary64 (1 * down e - m * up e * 1) (1 * down e))
one_add (fin false m e) w = round_clear binary64 (1 * down e + m * up e * 1) (1 * down e)

above_half : (x : Float) → lt half x ≡ true → sign_clear x ≡ true
unfolding of_bits lt sign_clear
above_half nan e = e
above_half (inf s) e = e
above_half (fin true m k) e = e
above_half (fin false m k) e = refl

-- the larger of 1/2 and any number
max_clear : (x : Float) → sign_clear (max_of half x) ≡ true
unfolding max_of of_bits ne eq sign_clear
max_clear x = go (lt half x) refl
  where
    go : (b : Bool) → lt half x ≡ b → sign_clear (cond b x half) ≡ true
    go true e = above_half x e
    go false e = refl

-- ---- THE WEIGHT

pub circular_clear : (dir edge : Vec3) → sign_clear (circular_tangent dir edge).w ≡ true
unfolding circular_tangent
circular_clear dir edge = rw (is_unit, is_two_thirds) (one_add _ (scaled _ (sub_one _ (max_clear _))))
