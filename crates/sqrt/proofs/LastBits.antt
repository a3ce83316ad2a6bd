-- From s, at most the root of 1024 * n, and its remainder d to the root of n * 2 ^ 52, rounded: the laws behind `rounded_root`. Assumes nothing.
use mathlib.Core.Path.{◌≡◌, sym, ap, subst}
use Prim.Native.Nat.{ℕ, ◌+◌, ◌-◌, ◌*◌, ◌/◌, ◌^◌, ◌≤◌, ◌<◌}
use native.Mathlib.Nat.{le_trans, le_of_lt, lt_of_le_of_lt, le-add_left, add-sub_of_le, mul-le-mul, mul-le-mul_left, mul-le-mul_right}
use native.Mathlib.Omega.{arith}
use lib.Dec.{lit<}
use Rattle.sqrt.specs.Sqrt.{isqrt}
use Rattle.sqrt.specs.Steps.{RootEstimate}
use Rattle.sqrt.proofs.Squares.{sq_lt_back, floor_le, floor_lt, isqrt_floor}
use Rattle.sqrt.proofs.Reciprocals.{product_fits, smaller}

-- ---- the rounded root, with q = s * 2 ^ 21 + l: 2 * q, 2 * q + 1 or 2 * q + 2 is the integer square root of 4 * n * 2 ^ 52

module _ (n s d l : ℕ) (d_is : s * s + d ≡ 1024 * n) where
  stays_at : l * (s * 2 ^ 22 + l) ≤ d * 2 ^ 42 → d * 2 ^ 21 ≤ s * (2 * l + 1) + l * (l + 1) / 2 ^ 21 → s * 2 ^ 21 + l ≡ (isqrt (n * 2 ^ 54) + 1) / 2
  stays_at a t =
      let q = s * 2 ^ 21 + l in
      let f = isqrt_floor (n * 2 ^ 54) in
      omega (arith, floor_le {a = 2 * q} f (omega arith), floor_lt {a = 2 * q + 1} f (omega arith))

  rises_at : d * 2 ^ 21 ≤ s * (2 * l + 3) → s * (2 * l + 1) + l * (l + 1) / 2 ^ 21 < d * 2 ^ 21 → s * 2 ^ 21 + l + 1 ≡ (isqrt (n * 2 ^ 54) + 1) / 2
  rises_at a t =
      let q = s * 2 ^ 21 + l in
      let f = isqrt_floor (n * 2 ^ 54) in
      omega (arith, floor_le {a = 2 * q + 1} f (omega arith), floor_lt {a = 2 * q + 3} f (omega arith))

-- ---- sums and products that the laws below need, over fewer names

gap : (y p f : ℕ) → y + p * p ≤ (p + f) * (p + f) → y ≤ f * (2 * (p + f))
gap y p f h = omega arith

times_le : (l s r d : ℕ) → l * 2 ^ 43 * (s * 2 ^ 22 + l) ≤ d * r * (s * 2 ^ 22 + l) → d * (r * l + s * r * 2 ^ 22) ≤ d * 2 ^ 85 → l * (s * 2 ^ 22 + l) ≤ d * 2 ^ 42
times_le l s r d a b = omega arith

weighed : (d s sl dsr sr : ℕ) → dsr ≤ sl * 2 ^ 43 + s * 2 ^ 43 + sr * 2 ^ 6 → d * 2 ^ 63 ≤ dsr + d * (20 * 2 ^ 32) → sr ≤ s * 2 ^ 32 → d ≤ 47 * s → d * 2 ^ 21 ≤ 2 * sl + 3 * s
weighed d s sl dsr sr a b c k = let e : d * 2 ^ 63 ≤ sl * 2 ^ 43 + s * (2 ^ 43 + 2 ^ 42) = omega arith in omega arith

-- what keeps the numbers of `rounded_root` within 64 bits
pub record Bounds (s d l : ℕ) : Type 0 where
  pub root : s < 2 ^ 32
  pub remainder : d < 2 ^ 38
  pub last : l < 2 ^ 27
  pub double : s * (2 * l + 1) ≤ 2 ^ 32 * 2 ^ 28
  pub square : l * (l + 1) ≤ 2 ^ 27 * 2 ^ 27

-- ---- d is the remainder of s

-- the code's l
abbrev pub last : ℕ → ℕ → ℕ
last d r = d / 2 ^ 6 * r / 2 ^ 37

module _ (n s r d : ℕ) (h : RootEstimate n s r) (d_is : s * s + d ≡ 1024 * n) where
  r_lt : r < 2 ^ 32
  r_lt = smaller n r h.least h.reciprocal

  s_lt : s < 2 ^ 32
  s_lt = sq_lt_back {b = 2 ^ 32} (let z : s * s < 2 ^ 32 * 2 ^ 32 = omega (arith, h.root, h.below) in z)

  d_lt : d < 2 ^ 38
  d_lt = omega (arith, h.remainder, s_lt)

  pub scaled_le : d / 2 ^ 6 * r ≤ (2 ^ 32 - 1) * (2 ^ 32 - 1)
  scaled_le = product_fits (omega (arith, d_lt)) r_lt

  pub bounds : Bounds s d (last d r)
  bounds =
      let l_lt : last d r < 2 ^ 27 = omega (arith, scaled_le) in
      record {
        root = s_lt;
        remainder = d_lt;
        last = l_lt;
        double = mul-le-mul (le_of_lt s_lt) (let z : 2 * last d r + 1 ≤ 2 ^ 28 = omega arith in z);
        square = mul-le-mul (le_of_lt l_lt) (let z : last d r + 1 ≤ 2 ^ 27 = omega arith in z);
      }

  last_below : last d r * 2 ^ 43 ≤ d * r
  last_below = omega (arith, mul-le-mul_right r (let z : d / 2 ^ 6 * 2 ^ 6 ≤ d = omega arith in z))

  last_above : d * r ≤ last d r * 2 ^ 43 + 2 ^ 43 + r * 2 ^ 6
  last_above = omega (arith, mul-le-mul_right r (let z : d ≤ d / 2 ^ 6 * 2 ^ 6 + 2 ^ 6 = omega arith in z))

  squares_le : d * (r * r) + s * r * (s * r) ≤ 2 ^ 63 * 2 ^ 63
  squares_le = omega (arith, ap (λ (x : ℕ). x * (r * r)) d_is, h.reciprocal)

  product_le : s * r ≤ 2 ^ 63
  product_le = let a : s * r < 2 ^ 63 + 1 = sq_lt_back {b = 2 ^ 63 + 1} (lt_of_le_of_lt (le_trans (le-add_left (s * r * (s * r)) (d * (r * r))) squares_le) (lit< tt)) in omega arith

  -- the distance f of s * r from 2 ^ 63 bounds r * l
  distance : (f : ℕ) → s * r + f ≡ 2 ^ 63 → r * last d r ≤ f * 2 ^ 21
  distance f e =
      let a : d * (r * r) ≤ f * (2 * (s * r + f)) = gap (d * (r * r)) (s * r) f (subst (λ (P : ℕ). d * (r * r) + s * r * (s * r) ≤ P * P) (sym e) squares_le) in
      let b : d * (r * r) ≤ f * (2 * 2 ^ 63) = subst (λ (P : ℕ). d * (r * r) ≤ f * (2 * P)) e a in
      omega (arith, mul-le-mul_right r last_below)

  -- s * 2 ^ 21 + l is at most the root of n * 2 ^ 52
  not_above : last d r * (s * 2 ^ 22 + last d r) ≤ d * 2 ^ 42
  not_above =
      let k = distance (2 ^ 63 - s * r) (add-sub_of_le product_le) in
      let a = mul-le-mul_left d (let z : r * last d r + s * r * 2 ^ 22 ≤ 2 ^ 85 = omega (arith, k, product_le) in z) in
      let b = mul-le-mul_right (s * 2 ^ 22 + last d r) last_below in
      times_le (last d r) s r d b a

  -- and the root is above it by less than 3 / 2
  not_below : d * 2 ^ 21 ≤ s * (2 * last d r + 3)
  not_below =
      let k : d ≤ 47 * s = omega (arith, h.remainder) in
      let w = weighed d s (s * last d r) (d * (s * r)) (s * r) (omega (arith, mul-le-mul_left s last_above)) (omega (arith, mul-le-mul_left d h.product)) (mul-le-mul_left s (le_of_lt r_lt)) k in
      omega arith

  pub stays : d * 2 ^ 21 ≤ s * (2 * last d r + 1) + last d r * (last d r + 1) / 2 ^ 21 → s * 2 ^ 21 + last d r ≡ (isqrt (n * 2 ^ 54) + 1) / 2
  stays t = stays_at n s d (last d r) d_is not_above t

  pub rises : s * (2 * last d r + 1) + last d r * (last d r + 1) / 2 ^ 21 < d * 2 ^ 21 → s * 2 ^ 21 + last d r + 1 ≡ (isqrt (n * 2 ^ 54) + 1) / 2
  rises t = rises_at n s d (last d r) d_is not_below t
