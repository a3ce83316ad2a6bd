-- A crease that touches a zero normal has the dot product zero: with a number that is not finite it would be no number, and its angle above no limit. Assumes nothing.
use Prim.Native.Nat.{ℕ, zero, suc, ◌+◌, ◌*◌, ◌<◌}
use native.Mathlib.Nat.{mul-pos}
use native.Mathlib.Omega.{arith}
use mathlib.Core.Path.{◌≡◌, refl, sym, ◌∙◌}
use mathlib.Core.Bool.{Bool, true, false, beq, ◌&&◌, ◌||◌, true≢false}
use mathlib.Core.List.{List}
use lib.Dec.{eqb}
use lib.IntN.{ℤ}
use lib.Ieee as Ieee
use lib.Ieee.{Float, nan, inf, fin, Format, up, down, round, add, mul, eq, lt, unlike, binary64}
use lib.Ieee.Fits.{up_pos, down_pos}
use lib.Ieee.Scale.{round_same}
use Rattle.std.proofs.lemmas.Bool.{and_parts, eqb-true}
use Rattle.float.specs.Ops.{zero as zero_float}
use Rattle.float.specs.F64.{clamp_of}
use Rattle.math.specs.Kernels.{abs_high_word}
use Rattle.math.specs.Acos.{acos_beyond, acos_of}
use Rattle.linalg.specs.Vec.{is_zero, dot_of}
use Rattle.linalg.specs.declared.Vec3.{Vec3}
use Rattle.mesh.specs.Mesh.{is_forward, Halfedges}
use Rattle.sharpen.specs.Crease.{dihedral_of, own_normal, other_normal, edge_kind}
use Rattle.sharpen.specs.declared.edge.EdgeKind.TheVariants.{Crease}

-- zero of either sign, or not a number
abbrev ZeroOrNan : Float → Type 0
ZeroOrNan nan = Unit {0}
ZeroOrNan (inf s) = ⊥
ZeroOrNan (fin s m e) = m ≡ 0

-- ---- products and sums of these

-- nothing, rounded
rounded : (s : Bool) (num den : ℕ) → num ≡ 0 → 0 < den → ZeroOrNan (round binary64 s num den)
unfolding Ieee.round Ieee.units Ieee.odd Ieee.size Ieee.span Ieee.climb
rounded s num den e h =
    let same : round binary64 s num den ≡ round binary64 s 0 1 = round_same binary64 s num den 0 1 h (omega arith) (omega arith) in
    rw same refl

downs : (e d : ℤ) → 0 < down e * down d
downs e d = mul-pos (down_pos e) (down_pos d)

factor_zero : (m u : ℕ) → 0 < u → m * u ≡ 0 → m ≡ 0
factor_zero zero u h e = refl
factor_zero (suc m) (suc u) h e = absurd (omega (arith, e))
factor_zero (suc m) zero h e = absurd (omega arith)

equals_zero : (x : Float) → eq x zero_float ≡ true → ZeroOrNan x
unfolding Ieee.eq Ieee.of_bits
equals_zero nan e = tt
equals_zero (inf s) e = absurd (true≢false (sym e))
equals_zero (fin s m k) e =
    let parts = and_parts _ _ e in
    factor_zero m (up k) (up_pos k) (factor_zero (m * up k) _ (omega arith) (eqb-true _ _ parts.0 ∙ omega arith))

-- either factor is enough
left_factor : (x y : Float) → ZeroOrNan x → ZeroOrNan (mul binary64 x y)
unfolding Ieee.mul
left_factor nan y z = tt
left_factor (inf s) y z = elim z [ ]
left_factor (fin s m e) nan z = tt
left_factor (fin s m e) (inf t) z = rw z tt
left_factor (fin s m e) (fin t n d) z = rounded (unlike s t) (m * up e * (n * up d)) (down e * down d) (rw z (omega arith)) (downs e d)

right_factor : (x y : Float) → ZeroOrNan y → ZeroOrNan (mul binary64 x y)
unfolding Ieee.mul
right_factor nan y z = tt
right_factor (inf s) nan z = tt
right_factor (inf s) (inf t) z = elim z [ ]
right_factor (inf s) (fin t n d) z = rw z tt
right_factor (fin s m e) nan z = tt
right_factor (fin s m e) (inf t) z = elim z [ ]
right_factor (fin s m e) (fin t n d) z = rounded (unlike s t) (m * up e * (n * up d)) (down e * down d) (rw z (omega arith)) (downs e d)

no_units : (s t : Bool) (a b c : ℕ) → a ≡ 0 → b ≡ 0 → 0 < c → ZeroOrNan (Ieee.sum binary64 s a t b c)
unfolding Ieee.sum
no_units true true a b c e f h = rounded true (a + b) c (omega arith) h
no_units true false a b c e f h = rw (e, f) (rounded false 0 c refl h)
no_units false true a b c e f h = rw (e, f) (rounded false 0 c refl h)
no_units false false a b c e f h = rounded false (a + b) c (omega arith) h

both_terms : (x y : Float) → ZeroOrNan x → ZeroOrNan y → ZeroOrNan (add binary64 x y)
unfolding Ieee.add
both_terms nan y z w = tt
both_terms (inf s) y z w = elim z [ ]
both_terms (fin s m e) nan z w = tt
both_terms (fin s m e) (inf t) z w = elim w [ ]
both_terms (fin s m e) (fin t n d) z w = no_units s t (m * up e * down d) (n * up d * down e) (down e * down d) (rw z (omega arith)) (rw w (omega arith)) (downs e d)

-- ---- the dot product

numbers : (a : Vec3) → is_zero a ≡ true → ZeroOrNan a.x × ZeroOrNan a.y × ZeroOrNan a.z
unfolding is_zero
numbers a e =
    let xyz = and_parts _ _ e in
    let xy = and_parts _ _ xyz.0 in
    (equals_zero a.x xy.0, equals_zero a.y xy.1, equals_zero a.z xyz.1)

dot_zero : (a b : Vec3) → is_zero a || is_zero b ≡ true → ZeroOrNan (dot_of a b)
unfolding dot_of
dot_zero a b e = go (is_zero a) refl e
  where
    go : (c : Bool) → is_zero a ≡ c → c || is_zero b ≡ true → ZeroOrNan (dot_of a b)
    go true q r =
        let z = numbers a q in
        both_terms _ _ (both_terms _ _ (left_factor a.x b.x z.0) (left_factor a.y b.y z.1)) (left_factor a.z b.z z.2)
    go false q r =
        let z = numbers b r in
        both_terms _ _ (both_terms _ _ (right_factor a.x b.x z.0) (right_factor a.y b.y z.1)) (right_factor a.z b.z z.2)

below_nan : (limit : Float) → lt limit nan ≡ false
unfolding Ieee.lt
below_nan nan = refl
below_nan (inf s) = refl
below_nan (fin s m e) = refl

equal_zeros : (s : Bool) (a b : ℕ) → a ≡ 0 → b ≡ 0 → eqb a b && (beq s false || eqb a 0) ≡ true
equal_zeros true a b e f = rw (e, f) refl
equal_zeros false a b e f = rw (e, f) refl

-- an angle above a limit is a number, and so is the dot product
limited : (d limit : Float) → lt limit (dihedral_of d) ≡ true → ZeroOrNan d → eq d zero_float ≡ true
unfolding dihedral_of acos_of acos_beyond abs_high_word clamp_of Ieee.lt Ieee.eq Ieee.neg Ieee.sub Ieee.div Ieee.of_bits Ieee.to_bits
limited nan limit h z = absurd (true≢false (sym h ∙ below_nan limit))
limited (inf s) limit h z = elim z [ ]
limited (fin s m e) limit h z = equal_zeros s _ _ (rw z (omega arith)) (omega arith)

no_sliver : (a b : Vec3) (limit : Float) → lt limit (dihedral_of (dot_of a b)) ≡ true → eq (dot_of a b) zero_float ≡ false → is_zero a || is_zero b ≡ false
no_sliver a b limit h q = go (is_zero a || is_zero b) refl
  where
    go : (c : Bool) → is_zero a || is_zero b ≡ c → is_zero a || is_zero b ≡ false
    go true r = absurd (true≢false (sym (limited (dot_of a b) limit h (dot_zero a b r)) ∙ q))
    go false r = r

-- so that a crease whose dot product is not zero is no sliver's
module _ (H : Halfedges) (A : List Float) (limit : Float) (e : ℕ) where
  pub crease_alone : is_forward H e ≡ true → lt limit (dihedral_of (dot_of (own_normal A e) (other_normal H A e))) ≡ true → eq (dot_of (own_normal A e) (other_normal H A e)) zero_float ≡ false → Crease ≡ edge_kind H A limit e
  unfolding edge_kind
  crease_alone f h q = rw (f, h, no_sliver (own_normal A e) (other_normal H A e) limit h q) refl
