-- The definitions that the contracts of the private functions cite. Definitions only; nothing here is part of what `sqrt::sqrt` promises.
use Rattle.std.specs.Prelude.{◌≡◌, ℕ, zero, suc, ◌+◌, ◌*◌, ◌/◌, ◌%◌, ◌^◌, ◌≤◌, ◌<◌}

-- s is the integer square root of n
pub record FloorSqrt (n s : ℕ) : Type 0 where
  pub at_most : s * s ≤ n
  pub above : n < (s + 1) * (s + 1)

-- n lies in the segment i of 128: segments 0 to 63 are of the numbers of 54 bits, by the 6 bits below the leading one, 64 to 127 those of 53 bits
pub record InSegment (i n : ℕ) : Type 0 where
  pub place : i < 128
  pub wide : i < 64 → ((128 + 2 * i) * 2 ^ 46 ≤ n) × (n < (130 + 2 * i) * 2 ^ 46)
  pub narrow : 64 ≤ i → (i * 2 ^ 46 ≤ n) × (n < (i + 1) * 2 ^ 46)

-- t * t * n is within a 128th of 2 ^ 84 at both ends of the segment i, and c is t * t * t / 2 ^ 16 or above it by at most 1
pub record Seed (i t c : ℕ) : Type 0 where
  pub wide : i < 64 → (127 * 2 ^ 31 ≤ t * t * (128 + 2 * i)) × (t * t * (130 + 2 * i) ≤ 129 * 2 ^ 31)
  pub narrow : 64 ≤ i → (127 * 2 ^ 31 ≤ t * t * i) × (t * t * (i + 1) ≤ 129 * 2 ^ 31)
  pub cube : t * t * t ≤ c * 2 ^ 16
  pub tight : c * 2 ^ 16 ≤ t * t * t + 2 ^ 16

-- r is below 2 ^ 58 / √n, and r * r * n is below 2 ^ 116 by e at most
pub record Reciprocal (n r e : ℕ) : Type 0 where
  pub below : r * r * n < 2 ^ 116
  pub near : 2 ^ 116 ≤ r * r * n + e

-- s is at most √(1024 * n), with a remainder of at most 47 * s, and r is close to 2 ^ 63 / s
pub record RootEstimate (n s r : ℕ) : Type 0 where
  pub least : 2 ^ 52 ≤ n
  pub below : n < 2 ^ 54
  pub root : s * s ≤ 1024 * n
  pub remainder : 1024 * n ≤ s * s + 47 * s
  pub reciprocal : r * r * n < 2 ^ 116
  pub product : 2 ^ 63 ≤ s * r + 20 * 2 ^ 32

-- the bits of positive infinity: those of a finite value with no sign are below it
abbrev pub infinity_bits : ℕ
infinity_bits = 0x7ff0_0000_0000_0000

-- the units of 2 ^ -1074 in a finite value with no sign, by its biased exponent e and its trailing significand t
abbrev pub units_at : ℕ → ℕ → ℕ
units_at zero t = t
units_at (suc e) t = (2 ^ 52 + t) * 2 ^ e

-- the same by the bits of the value
abbrev pub units_of : ℕ → ℕ
units_of b = units_at (b / 2 ^ 52) (b % 2 ^ 52)

-- the value with the bits b is m * 2 ^ (f - 1022) units, and m has 53 bits
pub record IsNormalized (b m f : ℕ) : Type 0 where
  pub same : m * 2 ^ f ≡ units_of b * 2 ^ 1022
  pub least : 2 ^ 52 ≤ m
  pub below : m < 2 ^ 53
  pub low : 970 ≤ f
  pub high : f ≤ 3067
