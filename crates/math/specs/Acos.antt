-- `acos` of src/math.rs.
use Rattle.std.specs.Prelude.{ℕ, ◌*◌, ◌/◌, ◌%◌, cond, leb, ltb, eqb, Float}
use Rattle.float.specs.Ops.{◌⊕◌, ◌⊖◌, ◌⊗◌, ◌⊘◌, lit, zero, half, one, two}
use Rattle.float.specs.F64.{bits_of}
use Rattle.sqrt.specs.Sqrt.{sqrt_of}
use Rattle.math.specs.Kernels.{abs_high_word, sign_bit}
use Rattle.math.specs.Consts.{tiny, pio2_hi, pio2_lo, ps0, ps1, ps2, ps3, ps4, ps5, qs1, qs2, qs3, qs4}

-- the inner function `r`
unfoldable pub acos_r : Float → Float
acos_r z =
    let p = z ⊗ (ps0 ⊕ z ⊗ (ps1 ⊕ z ⊗ (ps2 ⊕ z ⊗ (ps3 ⊕ z ⊗ (ps4 ⊕ z ⊗ ps5))))) in
    let q = one ⊕ z ⊗ (qs1 ⊕ z ⊗ (qs2 ⊕ z ⊗ (qs3 ⊕ z ⊗ qs4))) in
    p ⊘ q

-- `f64::from_bits(x.to_bits() & 0xffff_ffff_0000_0000)`
unfoldable pub clear_low_word : Float → Float
clear_low_word x = lit (bits_of x / 0x1_0000_0000 * 0x1_0000_0000)

-- `ix` from 0x3ff0_0000 on: |x| is 1 or more, or x is not a number
unfoldable pub acos_beyond : Float → ℕ → Float
acos_beyond x ix =
    cond (eqb ix 0x3ff0_0000)
    (cond (eqb (bits_of x % 0x1_0000_0000) 0)
    (cond (sign_bit x) (two ⊗ pio2_hi ⊕ tiny) zero)
    (zero ⊘ (x ⊖ x)))
    (zero ⊘ (x ⊖ x))

-- `ix` below 0x3fe0_0000: |x| is below a half
unfoldable pub acos_small : Float → ℕ → Float
acos_small x ix = cond (leb ix 0x3c60_0000) (pio2_hi ⊕ tiny) (pio2_hi ⊖ (x ⊖ (pio2_lo ⊖ x ⊗ acos_r (x ⊗ x))))

-- x is at most -1 / 2
unfoldable pub acos_negative : Float → Float
acos_negative x =
    let z = (one ⊕ x) ⊗ half in
    let s = sqrt_of z in
    let w = acos_r z ⊗ s ⊖ pio2_lo in
    two ⊗ (pio2_hi ⊖ (s ⊕ w))

-- x is at least 1 / 2
unfoldable pub acos_positive : Float → Float
acos_positive x =
    let z = (one ⊖ x) ⊗ half in
    let s = sqrt_of z in
    let df = clear_low_word s in
    let c = (z ⊖ df ⊗ df) ⊘ (s ⊕ df) in
    let w = acos_r z ⊗ s ⊕ c in
    two ⊗ (df ⊕ w)

-- `acos`
unfoldable pub acos_of : Float → Float
acos_of x =
    let ix = abs_high_word x in
    cond (leb 0x3ff0_0000 ix) (acos_beyond x ix)
    (cond (ltb ix 0x3fe0_0000) (acos_small x ix)
    (cond (sign_bit x) (acos_negative x) (acos_positive x)))
