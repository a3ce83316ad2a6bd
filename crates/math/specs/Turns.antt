-- What only private functions need: how many quarter turns the tests of `rem_pio2` choose, and the arms of `sin` and `cos`.
use Rattle.std.specs.Prelude.{ℕ, ◌+◌, ◌%◌, cond, leb, ltb, eqb, ℤ, pos, neg_ℤ, Float, Option, None, Some}
use Rattle.std.specs.Float.Ieee.{neg}
use Rattle.math.specs.declared.RemPio2.{RemPio2}
use Rattle.math.specs.Kernels.{sign_bit, sin_kernel, cos_kernel}
use Rattle.math.specs.Trig.{quadrant_of}

-- The number of quarter turns, none where the medium range's way is taken: `ix` at most 0x400f_6a7a
unfoldable pub near_turns : ℕ → Option ℕ
near_turns ix = cond (eqb (ix % 0x10_0000) 0x9_21fb) None (cond (leb ix 0x4002_d97c) (Some 1) (Some 2))

-- `ix` at most 0x401c_463b
unfoldable pub far_turns : ℕ → Option ℕ
far_turns ix = cond (leb ix 0x4015_fdbc) (cond (eqb ix 0x4012_d97c) None (Some 3)) (cond (eqb ix 0x4019_21fb) None (Some 4))

-- any `ix`
unfoldable pub quarter_turns : ℕ → Option ℕ
quarter_turns ix = cond (leb ix 0x400f_6a7a) (near_turns ix) (cond (leb ix 0x401c_463b) (far_turns ix) None)

-- k, or -k where x is negative
unfoldable pub signed_turns : ℕ → Float → ℤ
signed_turns k x = cond (sign_bit x) (neg_ℤ (pos k)) (pos k)

-- the kernel at the quadrant q
unfoldable pub quadrant_kernel : ℕ → Float → Float → Float
quadrant_kernel q y0 y1 = cond (eqb (q % 2) 0) (sin_kernel y0 (Some y1)) (cos_kernel y0 y1)

-- the `match` of `sin` some quadrants further on: 0 for `sin`, 1 for `cos`
unfoldable pub sin_turned : ℕ → RemPio2 → Float
sin_turned more t =
    let q = quadrant_of t.n + more in
    let value = quadrant_kernel q t.y0 t.y1 in
    cond (ltb (q % 4) 2) value (neg value)
