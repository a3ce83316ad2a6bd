-- `sqrt::normalize` meets its contract, by the laws of `proofs/Normalization.antt`. Assumes nothing.
use native.Mathlib.Omega.{arith}
use mathlib.Core.Path.{◌≡◌}
use Prim.Native.Nat.{ℕ, ◌+◌, ◌-◌, ◌*◌, ◌/◌, ◌%◌, ◌^◌, ◌≤◌, ◌<◌}
use native.Mathlib.Nat.{sub-add_cancel}
use lib.Count.{count_leading_zeros}
use Rattle.sqrt.specs.Steps.{IsNormalized}
use Rattle.sqrt.proofs.Normalization.{LeadingBit, leading_bit, subnormal, normal}
use Rattle.sqrt.proofs.RootEncoding.{mod_two}
use Rattle.sqrt.proofs.normalize.Goals as goal

small : (c : goal.Then-e-eq0) → c.args.b < 2 ^ 52
small c = omega arith

bit : (c : goal.Then-e-eq0) → LeadingBit c.args.b c.requires.0 (small c) (count_leading_zeros 64 c.args.b)
bit c = leading_bit c.args.b c.requires.0 (small c)

-- the significand that the shift gives
shifted : (c : goal.Then-e-eq0) → IsNormalized c.args.b (c.args.b * 2 ^ (count_leading_zeros 64 c.args.b - 11) % 2 ^ 64) (1033 - count_leading_zeros 64 c.args.b)
shifted c = subnormal c.args.b c.requires.0 (small c) (count_leading_zeros 64 c.args.b) (bit c)

-- the segment: i is what is left of m / 2 ^ 46
segment_fits : (m p : ℕ) → 2 ^ 52 ≤ m → p < 2 → 64 * p ≤ m / 2 ^ 46
segment_fits m p lo h = omega arith

segment_at : (b : ℕ) → b / 2 ^ 46 % 128 + 64 * ((b / 2 ^ 52 + 1021) % 2) ≡ (b % 2 ^ 52 + 2 ^ 52) / 2 ^ 46
segment_at b = omega arith

pub overflow_sub-m : goal.overflow_sub-m
overflow_sub-m c = omega (arith, bit c)

pub overflow_sub-i : goal.overflow_sub-i
overflow_sub-i c = segment_fits _ _ (shifted c).least (mod_two _)

pub returns-then-e-eq0 : goal.returns-then-e-eq0
returns-then-e-eq0 c = (shifted c, sub-add_cancel (segment_fits _ _ (shifted c).least (mod_two _)))

pub returns-else-e-eq0 : goal.returns-else-e-eq0
returns-else-e-eq0 c = (normal c.args.b c.requires.1 c.if-e-eq0.false, segment_at c.args.b)
