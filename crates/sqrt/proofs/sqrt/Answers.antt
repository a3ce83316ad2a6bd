-- `sqrt::sqrt` meets its contract: the clause `root` by what its comparisons say of x (`proofs/Comparisons.antt`) and by what `sqrt_bits` ensures,
-- and the clauses `ieee` and `only` by `correct` and `unique` (`proofs/Nearest.antt`), since x is an f64. Assumes nothing.
use mathlib.Core.Path.{◌≡◌, refl, sym, ap, ◌∙◌, subst}
use mathlib.Core.Bool.{Bool, true, not}
use Prim.Native.Nat.{ℕ, ◌<◌}
use native.Mathlib.Nat.{mod-eq_of_lt, lt_of_lt_of_le, le_of_lt}
use borrow.Author.Tests.{le-ltb}
use lib.Dec.{T, ltb, lit≤}
use lib.Ieee.{Float, nan, binary64, lt, eq, div, fits, nan_bits, of_bits}
use lib.Ieee.Bits.{of_bits-to_bits, nan_bits_above}
use Rattle.sqrt.specs.Sqrt.{square_root, sqrt_of}
use Rattle.sqrt.specs.Nearest.{IsRoot, OnlyRoot}
use Rattle.sqrt.specs.Steps.{infinity_bits}
use Rattle.sqrt.proofs.Comparisons.{zero⁺, zero_bits, above_below, above_pos, at_infinity, at_zero, otherwise}
use Rattle.sqrt.proofs.Nearest.{correct, unique}
use Rattle.sqrt.proofs.sqrt.Goals as goal

representable : (x : Float) → fits binary64 x ≡ true → T (fits binary64 x)
representable x e = subst T (sym e) tt

-- all clauses, from the first
module _ (x r : Float) (f : fits binary64 x ≡ true) (e : r ≡ sqrt_of x) where
  clauses : record { root : r ≡ sqrt_of x; ieee : IsRoot x r; only : OnlyRoot x r }
  clauses = record {
    root = e;
    ieee = subst (IsRoot x) (sym e) (correct x (representable x f));
    only = subst (OnlyRoot x) (sym e) (unique x (representable x f));
  }

no_nan_bits : (n : ℕ) → n < infinity_bits → T (not (nan_bits binary64 n))
no_nan_bits n h =
    subst (λ (b : Bool). T (not b)) (sym (nan_bits_above binary64 n ∙ ap (ltb infinity_bits) (mod-eq_of_lt (lt_of_lt_of_le h (lit≤ tt))) ∙ le-ltb infinity_bits n (le_of_lt h))) tt

quotient : div binary64 (of_bits binary64 0) (of_bits binary64 0) ≡ nan
unfolding of_bits div
quotient = refl

above : (x : Float) → lt (of_bits binary64 0) x ≡ true → lt zero⁺ x ≡ true
above x h = ap (λ (z : Float). lt z x) (sym zero_bits) ∙ h

pub returns-then-b-eq-INFINITY_BITS : goal.returns-then-b-eq-INFINITY_BITS
returns-then-b-eq-INFINITY_BITS c = clauses _ _ c.well_formed.0.1 (at_infinity c.args.x (representable _ c.well_formed.0.1) c.if-b-eq-INFINITY_BITS.true)

pub sqrt_bits-requires : goal.sqrt_bits-requires
sqrt_bits-requires c =
    let f = representable _ c.well_formed.0.1 in
    let p = above _ c.if-x.true in
    (above_pos c.args.x f p, above_below c.args.x f p c.if-b-eq-INFINITY_BITS.false)

pub float_from_bits-result : goal.float_from_bits-result
float_from_bits-result c = no_nan_bits c.sqrt_bits.result c.sqrt_bits.ensures.0

pub returns-then-x : goal.returns-then-x
returns-then-x c =
    clauses _ _ c.well_formed.0.1
    (c.sqrt_bits.ensures.1 ∙ ap (square_root binary64) (of_bits-to_bits binary64 c.args.x (representable _ c.well_formed.0.1)))

pub returns-then-x-2 : goal.returns-then-x-2
returns-then-x-2 c = clauses _ _ c.well_formed.0.1 (at_zero c.args.x (ap (eq c.args.x) (sym zero_bits) ∙ c.if-x-2.true))

pub returns : goal.returns
returns c =
    clauses _ _ c.well_formed.0.1
    (quotient
    ∙ sym (otherwise c.args.x (ap (λ (z : Float). lt z c.args.x) (sym zero_bits) ∙ c.if-x.false) (ap (eq c.args.x) (sym zero_bits) ∙ c.if-x-2.false)))
