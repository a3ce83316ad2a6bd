-- `sin` and `cos` of src/math.rs.
use Rattle.std.specs.Prelude.{ℕ, ◌-◌, ◌%◌, cond, leb, ltb, eqb, ℤ, pos, negsuc, Float, Some, None}
use Rattle.std.specs.Float.Ieee.{neg}
use Rattle.float.specs.Ops.{◌⊖◌, zero, one}
use Rattle.math.specs.declared.RemPio2.{RemPio2}
use Rattle.math.specs.Kernels.{abs_high_word, sin_kernel, cos_kernel}
use Rattle.math.specs.Rem.{rem_pio2}

-- `n & 3`: n modulo 4, from 0 to 3
unfoldable pub quadrant_of : ℤ → ℕ
quadrant_of (pos k) = k % 4
quadrant_of (negsuc k) = 3 - k % 4

-- the `match n & 3` of `sin`
unfoldable pub sin_reduced : RemPio2 → Float
sin_reduced t =
    let q = quadrant_of t.n in
    cond (eqb q 0) (sin_kernel t.y0 (Some t.y1))
    (cond (eqb q 1) (cos_kernel t.y0 t.y1)
    (cond (eqb q 2) (neg (sin_kernel t.y0 (Some t.y1)))
    (neg (cos_kernel t.y0 t.y1))))

-- the `match n & 3` of `cos`
unfoldable pub cos_reduced : RemPio2 → Float
cos_reduced t =
    let q = quadrant_of t.n in
    cond (eqb q 0) (cos_kernel t.y0 t.y1)
    (cond (eqb q 1) (neg (sin_kernel t.y0 (Some t.y1)))
    (cond (eqb q 2) (neg (cos_kernel t.y0 t.y1))
    (sin_kernel t.y0 (Some t.y1))))

-- `sin`
unfoldable pub sin_of : Float → Float
sin_of x =
    let ix = abs_high_word x in
    cond (leb ix 0x3fe9_21fb) (cond (ltb ix 0x3e50_0000) x (sin_kernel x None))
    (cond (leb 0x7ff0_0000 ix) (x ⊖ x) (sin_reduced (rem_pio2 x)))

-- `cos`
unfoldable pub cos_of : Float → Float
cos_of x =
    let ix = abs_high_word x in
    cond (leb ix 0x3fe9_21fb) (cond (ltb ix 0x3e46_a09e) one (cos_kernel x zero))
    (cond (leb 0x7ff0_0000 ix) (x ⊖ x) (cos_reduced (rem_pio2 x)))
