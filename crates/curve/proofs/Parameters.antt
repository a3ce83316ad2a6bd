-- The parameters of the second call go from 0 to 1, and the first call answers at each. Assumes nothing.
use Prim.Native.Nat.{ℕ, zero, suc, ◌-◌, ◌*◌, ◌≤◌, ◌<◌}
use native.Mathlib.Nat.{mul-pos, mul_comm, mul_assoc, mul_left_comm, mul-one, mul-le-mul_right}
use native.Mathlib.Omega.{arith}
use mathlib.Core.Path.{◌≡◌, refl, sym, ap, ◌∙◌, subst}
use mathlib.Core.Bool.{true, false, not, true≢false}
use mathlib.Core.List.{List, [], ◌∷◌}
use lib.IntN.{pos}
use lib.ListN.{length}
use lib.Dec.{T, leb, ltb→lt}
use lib.Ieee.{Float, nan, inf, fin, binary64, up, down, round, div, of_int, lt, le, is_nan, of_bits}
use lib.Ieee.Bits.{is_true}
use lib.Ieee.Fits.{up_pos, down_pos}
use lib.Ieee.Exact.{HasValue}
use lib.Ieee.Back.{round_whole}
use lib.Ieee.Order.{round_mono}
use lib.Ieee.Positive.{positive_of_value}
use lib.Ieee.Scale.{round_same}
use Rattle.std.specs.Prelude.{flat_map, Ok, Err, OnOk}
use Rattle.std.specs.List.{range_with_len}
use Rattle.std.proofs.lemmas.Bool.{leb-true, ne_eqb, not-true, and_parts, false_from_ne_true}
use Rattle.std.proofs.lemmas.Float.{lt_irrefl, lt_of_le_of_lt, le_left, T_from_true}
use Rattle.std.proofs.lemmas.Grind.{flat_map-append}
use Rattle.common.proofs.Front.{range_next}
use Rattle.float.specs.Ops.{◌⊘◌}
use Rattle.float.specs.Ops as float
use Rattle.linalg.specs.declared.Vec4.{Vec4}
use Rattle.questions.specs.Check.{Checked}
use Rattle.questions.specs.declared.Question.TheVariants.{CurveCount}
use Rattle.questions.proofs.Accepted.{then_accepted, asked_accepted}
use Rattle.curve.specs.Questions.{is_parameter, min_points, max_points, count_fits, check_points}
use Rattle.curve.specs.Curve.{Point, curve_at, position_of, parameter_at, numbers_of, numbers_at, points_of, points_after}
use Rattle.curve.specs.Parameters.{ParametersFit, PointsAnswered, SamePoints}
use Rattle.curve.proofs.Points.{first_points, points_next}

-- ---- the quotient of two whole numbers is their fraction, rounded

cross : (m u n v d e a b : ℕ) → m * u * 1 ≡ a * e → n * v * 1 ≡ b * d → m * u * d * b ≡ a * (n * v * e)
cross m u n v d e a b h k =
    let back : a * e * d * b ≡ a * (b * d * e) = simp (mul_assoc, mul_comm, mul_left_comm) in
    ap (λ (z : ℕ). z * d * b) (sym (mul-one (m * u)) ∙ h) ∙ back ∙ ap (λ (z : ℕ). a * (z * e)) (sym k ∙ mul-one (n * v))

div_whole : (x y : Float) (a b : ℕ) → 0 < b → HasValue x false a 1 → HasValue y false b 1 → x ⊘ y ≡ round binary64 false a b
unfolding div
div_whole nan y a b B h k = absurd h
div_whole (inf s) y a b B h k = absurd h
div_whole (fin true m e) y a b B h k = absurd (true≢false h.0)
div_whole (fin false m e) nan a b B h k = absurd k
div_whole (fin false m e) (inf t) a b B h k = absurd k
div_whole (fin false m e) (fin true n d) a b B h k = absurd (true≢false k.0)
div_whole (fin false m e) (fin false n d) a b B h k =
    let N : 0 < n = ltb→lt 0 n (positive_of_value (fin false n d) b 1 k B) in
    rw (ne_eqb n 0 (λ z. omega arith))
    (round_same binary64 false (m * up e * down d) (n * up d * down e) a b (mul-pos (mul-pos N (up_pos d)) (down_pos e)) B
    (cross m (up e) n (up d) (down d) (down e) a b h.1 k.1))

of_int_value : (n : ℕ) → n ≤ max_points → HasValue (of_int binary64 (pos n)) false n 1
unfolding of_int
of_int_value n h = round_whole binary64 false n (omega arith)

zero_is : round binary64 false 0 1 ≡ float.zero
unfolding round of_bits
zero_is = refl

one_is : round binary64 false 1 1 ≡ float.one
unfolding round of_bits
one_is = refl

-- ---- what lies from 0 to 1 is a parameter

not_below : (x y : Float) → T (le x y) → lt y x ≡ false
not_below x y h = false_from_ne_true (lt y x) (λ e. lt_irrefl x (lt_of_le_of_lt x y x h (T_from_true (lt y x) e)))

between : (x : Float) → T (le float.zero x) → T (le x float.one) → is_parameter x ≡ true
unfolding is_parameter
between x low high = rw (not-true (is_nan x) (is_true (not (is_nan x)) (le_left x float.one high)), not_below float.zero x low, not_below x float.one high) refl

-- ---- the parameters

module _ (count : ℕ) (h : count_fits count ≡ true) where
  two_or_more : 2 ≤ count
  two_or_more = leb-true min_points count (and_parts (leb min_points count) (leb count max_points) h).0

  few : count ≤ max_points
  few = leb-true count max_points (and_parts (leb min_points count) (leb count max_points) h).1

  nearest_lem : (i : ℕ) → i < count → parameter_at i count ≡ round binary64 false i (count - 1)
  unfolding parameter_at
  nearest_lem i l =
      let two = two_or_more in
      let most = few in
      div_whole (of_int binary64 (pos i)) (of_int binary64 (pos (count - 1))) i (count - 1) (omega arith) (of_int_value i (omega arith)) (of_int_value (count - 1) (omega arith))

  -- from 0 to 1
  accepted_lem : (i : ℕ) → i < count → is_parameter (parameter_at i count) ≡ true
  accepted_lem i l =
      let two = two_or_more in
      let low = round_mono binary64 0 1 i (count - 1) (omega arith) (omega arith) (omega arith) in
      let high = round_mono binary64 i (count - 1) 1 1 (omega arith) (omega arith) (omega arith) in
      rw (nearest_lem i l)
      (between (round binary64 false i (count - 1))
      (subst (λ (x : Float). T (le x (round binary64 false i (count - 1)))) zero_is low)
      (subst (λ (x : Float). T (le (round binary64 false i (count - 1)) x)) one_is high))

  ordered_lem : (i j : ℕ) → i ≤ j → j < count → le (parameter_at i count) (parameter_at j count) ≡ true
  ordered_lem i j l m =
      let two = two_or_more in
      rw (nearest_lem i (omega arith), nearest_lem j m)
      (is_true (le (round binary64 false i (count - 1)) (round binary64 false j (count - 1)))
      (round_mono binary64 i (count - 1) j (count - 1) (omega arith) (omega arith) (mul-le-mul_right (count - 1) l)))

  first_lem : parameter_at 0 count ≡ float.zero
  first_lem = let two = two_or_more in nearest_lem 0 (omega arith) ∙ round_same binary64 false 0 (count - 1) 0 1 (omega arith) (omega arith) (omega arith) ∙ zero_is

  last_lem : parameter_at (count - 1) count ≡ float.one
  last_lem = let two = two_or_more in nearest_lem (count - 1) (omega arith) ∙ round_same binary64 false (count - 1) (count - 1) 1 1 (omega arith) (omega arith) (omega arith) ∙ one_is

pub parameters_fit : (count : ℕ) → count_fits count ≡ true → ParametersFit count
parameters_fit count h = record { nearest = nearest_lem count h; accepted = accepted_lem count h; ordered = ordered_lem count h; first = first_lem count h; last = last_lem count h }

-- ---- the points

module _ (p0 p1 p2 p3 : Vec4) (count : ℕ) (h : count_fits count ≡ true) where
  pub points_answered : PointsAnswered p0 p1 p2 p3 count
  points_answered i l = rw (accepted_lem count h i l) refl

  abbrev answered : ℕ → List Float
  answered i = numbers_of (position_of (curve_at p0 p1 p2 p3 (parameter_at i count)))

  number_same : (i : ℕ) → i < count → numbers_at p0 p1 p2 p3 count i ≡ answered i
  number_same i l = sym (ap (λ (r : Point). numbers_of (position_of r)) (points_answered i l))

  first_same : (k : ℕ) → k ≤ count → first_points p0 p1 p2 p3 count k ≡ flat_map answered (range_with_len 0 k)
  first_same zero l = refl
  first_same (suc k) l =
      points_next p0 p1 p2 p3 count k
      ∙ rw (first_same k (omega arith), number_same k (omega arith)) (sym (flat_map-append answered (range_with_len 0 k) (k ∷ [])))
      ∙ ap (flat_map answered) (sym (range_next k))

  pub same_points : SamePoints p0 p1 p2 p3 count (points_of p0 p1 p2 p3 count)
  same_points = first_same count (omega arith)

-- the same of the list after the call, of which `r` is the answer
pub same_of : (p0 p1 p2 p3 : Vec4) (count : ℕ) (L : List Float) {points : List Float} (r : Checked) → r ≡ check_points count (length L) → points ≡ points_after p0 p1 p2 p3 count L → OnOk r (SamePoints p0 p1 p2 p3 count points)
same_of p0 p1 p2 p3 count L (Err refusal) q e = tt
same_of p0 p1 p2 p3 count L (Ok unit) q e =
    let fits = asked_accepted CurveCount 0 (count_fits count) (then_accepted _ _ (sym q)).0 in
    e ∙ rw (sym q) (same_points p0 p1 p2 p3 count fits)
