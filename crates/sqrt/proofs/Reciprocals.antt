-- The reciprocal square root r of n by two of Newton's steps, and the root as n * r: the laws behind `estimate`, `newton_step` and `sqrt_significand`, with bounds of what is rounded off. Assumes nothing.
use mathlib.Core.Path.{◌≡◌, ap}
use mathlib.Core.Logic.{⊎_elim}
use Prim.Native.Nat.{ℕ, zero, suc, ◌+◌, ◌-◌, ◌*◌, ◌/◌, ◌^◌, ◌≤◌, ◌<◌}
use native.Mathlib.Nat.{le_trans, le_of_eq, le_of_lt, mul_assoc, mul-le-mul, mul-le-mul_left, mul-le-mul_right, mul-lt-mul_of_pos_left}
use native.Mathlib.Omega.{arith}
use lib.Dec.{lit≤, lit<}
use Rattle.sqrt.specs.Steps.{InSegment, Seed, Reciprocal, RootEstimate}
use Rattle.sqrt.proofs.Squares.{sq_le, sq_lt_back}
use Rattle.sqrt.proofs.Newton.{le_or_lt, cube, newton_below, newton_near}

-- ---- bounds of r and of n * r

-- the product of two numbers below 2 ^ 32 fits 64 bits
pub product_fits : {a b : ℕ} → a < 2 ^ 32 → b < 2 ^ 32 → a * b ≤ (2 ^ 32 - 1) * (2 ^ 32 - 1)
product_fits {a} {b} h k = mul-le-mul (let z : a ≤ 2 ^ 32 - 1 = omega arith in z) (let z : b ≤ 2 ^ 32 - 1 = omega arith in z)

pub smaller : (n r : ℕ) → 2 ^ 52 ≤ n → r * r * n < 2 ^ 116 → r < 2 ^ 32
smaller n r lo h = sq_lt_back {b = 2 ^ 32} (let k = mul-le-mul_left (r * r) lo in let z : r * r < 2 ^ 32 * 2 ^ 32 = omega arith in z)

pub larger : (n r e a : ℕ) → n < 2 ^ 54 → 2 ^ 116 ≤ r * r * n + e → a * a * 2 ^ 54 + e < 2 ^ 116 → a < r
larger n r e a hi near h = sq_lt_back (let k = mul-le-mul_left (r * r) (le_of_lt hi) in let z : a * a < r * r = omega arith in z)

product_le : (n r : ℕ) → n < 2 ^ 54 → r * r * n < 2 ^ 116 → r * n ≤ 2 ^ 85
product_le n r hi h = ⊎_elim (λ l. let k = mul-le-mul l (le_of_lt hi) in omega arith) (λ l. let k = mul-le-mul_right (r * n) l in omega arith) (le_or_lt r (2 ^ 31))

mixed_le : (n r x : ℕ) → r * r * n < 2 ^ 116 → x * x * n < 2 ^ 116 → r * (x * n) ≤ 2 ^ 116
mixed_le n r x h k = ⊎_elim (λ l. let a = mul-le-mul_right (x * n) l in omega arith) (λ l. let a = mul-le-mul_right (r * n) (le_of_lt l) in omega arith) (le_or_lt r x)

-- ---- the first step, from the seed table

-- t * t * n is near 2 ^ 84 in the whole segment
pub record NearSeed (t n : ℕ) : Type 0 where
  pub least : 127 * 2 ^ 77 ≤ t * t * n
  pub most : t * t * n ≤ 129 * 2 ^ 77
  pub low : 2 ^ 52 ≤ n
  pub high : n < 2 ^ 54

pub near_seed : (i t c n : ℕ) → Seed i t c → InSegment i n → NearSeed t n
near_seed i t c n s g = ⊎_elim narrow wide (le_or_lt 64 i)
  where
    at : (l h : ℕ) → 64 ≤ l → h ≤ 256 → 127 * 2 ^ 31 ≤ t * t * l → t * t * h ≤ 129 * 2 ^ 31 → l * 2 ^ 46 ≤ n → n < h * 2 ^ 46 → NearSeed t n
    at l h l_ge h_le a b c d =
        let a' = mul-le-mul_left (t * t) c in
        let b' = mul-le-mul_left (t * t) (le_of_lt d) in
        record { least = omega arith; most = omega arith; low = omega arith; high = omega arith }

    narrow : 64 ≤ i → NearSeed t n
    narrow l = at i (i + 1) l (omega (arith, g.place)) (s.narrow l).0 (s.narrow l).1 (g.narrow l).0 (g.narrow l).1

    wide : i < 64 → NearSeed t n
    wide l = at (128 + 2 * i) (130 + 2 * i) (omega arith) (omega arith) (s.wide l).0 (s.wide l).1 (g.wide l).0 (g.wide l).1

-- m of 53 bits, or its double, by p: the segment is m / 2 ^ 46, less 64 for the double
pub in_segment : (m p i : ℕ) → 2 ^ 52 ≤ m → m < 2 ^ 53 → p < 2 → i + 64 * p ≡ m / 2 ^ 46 → InSegment i (m * (p + 1))
in_segment m zero i lo hi h e = omega arith
in_segment m (suc zero) i lo hi h e = omega arith
in_segment m (suc (suc p)) i lo hi h e = absurd (omega arith)

pub segment_range : (i n : ℕ) → InSegment i n → (2 ^ 52 ≤ n) × (n < 2 ^ 54)
segment_range i n g = ⊎_elim (λ l. omega (arith, g.place, g.narrow l)) (λ l. omega (arith, g.wide l)) (le_or_lt 64 i)

-- the code's w in `estimate`: the cube of t times n, over 2 ^ 69
abbrev pub cubic : ℕ → ℕ → ℕ
cubic n c = c * (n / 2 ^ 22) / 2 ^ 31

module _ (i n t c : ℕ) (g : InSegment i n) (s : Seed i t c) (c_lt : c < 2 ^ 32) where
  cubic_above : t * t * t * n < (cubic n c + 3) * 2 ^ 69
  cubic_above =
      let a = mul-le-mul_right n s.cube in
      let b = mul-le-mul_left c (let z : n ≤ n / 2 ^ 22 * 2 ^ 22 + 2 ^ 22 = omega arith in z) in
      omega arith

  cubic_below : cubic n c * 2 ^ 69 ≤ t * t * t * n + 2 ^ 70
  cubic_below =
      let a = mul-le-mul_right n s.tight in
      let b = mul-le-mul_left c (let z : n / 2 ^ 22 * 2 ^ 22 ≤ n = omega arith in z) in
      let h = (near_seed i t c n s g).high in
      omega arith

  pub estimate_fits : cubic n c + 3 ≤ t * 0x1_8000
  estimate_fits =
      let z = near_seed i t c n s g in
      let a = mul-le-mul_left t z.most in
      let b = cubic_below in
      ⊎_elim (λ e. absurd (omega (arith, mul-le-mul_right n (mul-le-mul_left t e), z.least))) (λ p. omega arith) (le_or_lt t 0)

  -- with y for 3 * 2 ^ 84 - t * t * n: t * y / 2 ^ 69 is above r, by at most 5
  estimated_at : (r y : ℕ) → r + (cubic n c + 3) ≡ t * 0x1_8000 → y + t * t * n ≡ 3 * 2 ^ 84 → Reciprocal n r (2 ^ 102 + 2 ^ 89)
  estimated_at r y r_is y_is =
      let z = near_seed i t c n s g in
      let p = ap (λ (x : ℕ). t * x) y_is in
      let k = cube (2 ^ 84) (t * t * n) y (2 ^ 77) y_is (omega (arith, z.most)) (omega (arith, z.least)) (lit≤ tt) in
      let below : r * r * n < 2 ^ 116 = newton_below (2 ^ 16) (2 ^ 84) n t y (2 ^ 77) r k (omega (arith, z.low)) (omega (arith, cubic_above)) in
      let near : 2 ^ 116 ≤ r * r * n + (2 ^ 102 + 5 * 2 ^ 86 + 25 * 2 ^ 54) =
      newton_near (2 ^ 16) (2 ^ 84) n t y (2 ^ 77) r k (5 * 2 ^ 85) (2 ^ 102) (5 * 2 ^ 86) (25 * 2 ^ 54) (lit< tt)
      (omega (arith, cubic_below))
      (lit≤ tt)
      (mul-le-mul_left (5 * 2 ^ 85) (product_le n r z.high below))
      (mul-le-mul_left (5 * 2 ^ 85 * (5 * 2 ^ 85)) (le_of_lt z.high)) in
      record { below = below; near = omega arith }

  pub estimated : Reciprocal n (t * 0x1_8000 - 3 - cubic n c) (2 ^ 102 + 2 ^ 89)
  estimated = estimated_at _ (3 * 2 ^ 84 - t * t * n) (omega (arith, estimate_fits)) (omega (arith, (near_seed i t c n s g).most))

-- ---- the second step

-- the code's w in `newton_step`: the square of r times n, over 2 ^ 86
abbrev pub square : ℕ → ℕ → ℕ
square n r = r * r / 2 ^ 32 * (n / 2 ^ 22) / 2 ^ 32

module _ (n r : ℕ) (lo : 2 ^ 52 ≤ n) (hi : n < 2 ^ 54) (h : Reciprocal n r (2 ^ 102 + 2 ^ 89)) where
  square_below : square n r * 2 ^ 86 ≤ r * r * n
  square_below =
      let a : r * r / 2 ^ 32 * 2 ^ 32 * (n / 2 ^ 22 * 2 ^ 22) ≤ r * r * n = mul-le-mul (omega arith) (omega arith) in
      omega arith

  square_above : r * r * n < (square n r + 3) * 2 ^ 86
  square_above =
      let a : r * r * n ≤ (r * r / 2 ^ 32 * 2 ^ 32 + (2 ^ 32 - 1)) * (n / 2 ^ 22 * 2 ^ 22 + (2 ^ 22 - 1)) = mul-le-mul (omega arith) (omega arith) in
      let b : r * r ≤ (2 ^ 32 - 1) * (2 ^ 32 - 1) = product_fits (smaller n r lo h.below) (smaller n r lo h.below) in
      omega arith

  pub square_fits : square n r ≤ 2 ^ 30
  square_fits = omega (arith, square_below, h.below)

  -- with y for 3 * 2 ^ 116 - r * r * n: r * y / 2 ^ 117 is above x, by at most 3 * r / 2 ^ 31 + 1
  refined_at : (u x y : ℕ) → u + square n r ≡ 0xbfff_fffd → x * 2 ^ 31 ≤ r * u → r * u < x * 2 ^ 31 + 2 ^ 31 → y + r * r * n ≡ 3 * 2 ^ 116 → Reciprocal n x (2 ^ 89 + 2 ^ 78)
  refined_at u x y u_is x_le x_gt y_is =
      let k = cube (2 ^ 116) (r * r * n) y (2 ^ 102 + 2 ^ 89) y_is (omega (arith, h.below)) h.near (lit≤ tt) in
      let r_pos : 0 < r = larger n r (2 ^ 102 + 2 ^ 89) 0 hi h.near (lit< tt) in
      let r_lt : r < 2 ^ 32 = smaller n r lo h.below in
      let up : r * (u * 2 ^ 86) < r * y = mul-lt-mul_of_pos_left (let q : u * 2 ^ 86 < y = omega (arith, square_above) in q) r_pos in
      let down : r * y ≤ r * ((u + 3) * 2 ^ 86) = mul-le-mul_left r (let q : y ≤ (u + 3) * 2 ^ 86 = omega (arith, square_below) in q) in
      let below : x * x * n < 2 ^ 116 = newton_below 1 (2 ^ 116) n r y (2 ^ 102 + 2 ^ 89) x k (omega arith) (omega arith) in
      let w = 2 ^ 86 * (2 ^ 31 + 3 * r) in
      let w_le : w ≤ 2 ^ 120 = omega arith in
      let g : (2 ^ 31 + 3 * r) * (x * n) ≤ 2 ^ 118 = omega (arith, product_le n x hi below, mixed_le n r x h.below below) in
      let near : 2 ^ 116 ≤ x * x * n + (2 ^ 88 + 2 ^ 77 + 2 ^ 88 + 2 ^ 60) =
      newton_near 1 (2 ^ 116) n r y (2 ^ 102 + 2 ^ 89) x k w (2 ^ 88 + 2 ^ 77) (2 ^ 88) (2 ^ 60) (lit< tt)
      (omega arith)
      (lit≤ tt)
      (le_trans (le_of_eq (mul_assoc (2 ^ 86) (2 ^ 31 + 3 * r) (x * n))) (mul-le-mul_left (2 ^ 86) g))
      (mul-le-mul (mul-le-mul w_le w_le) (le_of_lt hi)) in
      record { below = below; near = omega arith }

  pub refined : Reciprocal n (r * (0xbfff_fffd - square n r) / 2 ^ 31) (2 ^ 89 + 2 ^ 78)
  refined = refined_at (0xbfff_fffd - square n r) _ (3 * 2 ^ 116 - r * r * n) (omega (arith, square_fits)) (omega arith) (omega arith) (omega (arith, h.below))

-- ---- the root

remainder : (n r s d : ℕ) → r < 2 ^ 32 → 2 ^ 31 - 2 ^ 10 ≤ r → s * s + d ≡ 1024 * n → n * r < s * 2 ^ 53 + 2 ^ 53 + r * 2 ^ 22 → 2 ^ 63 ≤ s * r + 20 * 2 ^ 32 → d ≤ 47 * s
remainder n r s d r_lt r_ge e above pr =
    let a = mul-le-mul_left s (le_of_lt r_lt) in
    let b = mul-le-mul_left s pr in
    let c = mul-le-mul_left d r_ge in
    let f = ap (λ (x : ℕ). x * r) e in
    omega arith

-- the code's s in `sqrt_significand`
abbrev pub rough : ℕ → ℕ → ℕ
rough n r = n / 2 ^ 22 * r / 2 ^ 31

pub rooted : (n r : ℕ) → 2 ^ 52 ≤ n → n < 2 ^ 54 → Reciprocal n r (2 ^ 89 + 2 ^ 78) → RootEstimate n (rough n r) r
rooted n r lo hi h = go (rough n r) (omega arith) (omega arith)
  where
    r_lt : r < 2 ^ 32
    r_lt = smaller n r lo h.below

    go : (s : ℕ) → s * 2 ^ 31 ≤ n / 2 ^ 22 * r → n / 2 ^ 22 * r < s * 2 ^ 31 + 2 ^ 31 → RootEstimate n s r
    go s s_le s_gt =
        let a : n / 2 ^ 22 * 2 ^ 22 * r ≤ n * r = mul-le-mul_right r (omega arith) in
        let b : n * r ≤ (n / 2 ^ 22 * 2 ^ 22 + 2 ^ 22) * r = mul-le-mul_right r (omega arith) in
        let least : s * 2 ^ 53 ≤ n * r = omega arith in
        let above : n * r < s * 2 ^ 53 + 2 ^ 53 + r * 2 ^ 22 = omega arith in
        let p : 2 ^ 63 ≤ s * r + 20 * 2 ^ 32 = omega (arith, mul-le-mul_right r (le_of_lt above), product_fits r_lt r_lt, r_lt, h.near) in
        let q : s * s ≤ 1024 * n = omega (arith, sq_le least, mul-le-mul_left n (le_of_lt h.below)) in
        let d = remainder n r s (1024 * n - s * s) r_lt (le_of_lt (larger n r (2 ^ 89 + 2 ^ 78) (2 ^ 31 - 2 ^ 10) hi h.near (lit< tt))) (omega arith) above p in
        record { least = lo; below = hi; root = q; remainder = omega arith; reciprocal = h.below; product = p }
