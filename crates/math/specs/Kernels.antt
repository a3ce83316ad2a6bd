-- The two kernels of src/math.rs, step by step, and the words of a bit pattern that its tests read.
use Rattle.std.specs.Prelude.{ℕ, ◌/◌, ◌%◌, Bool, leb, Float, Option, unwrap_or, option_map}
use Rattle.float.specs.Ops.{◌⊕◌, ◌⊖◌, ◌⊗◌, half, one}
use Rattle.float.specs.F64.{bits_of}
use Rattle.math.specs.Consts.{s1, s2, s3, s4, s5, s6, c1, c2, c3, c4, c5, c6}

-- `ix`: the upper 32 bits without the sign
unfoldable pub abs_high_word : Float → ℕ
abs_high_word x = bits_of x / 0x1_0000_0000 % 0x8000_0000

-- `sign`
unfoldable pub sign_bit : Float → Bool
sign_bit x = leb 0x8000_0000_0000_0000 (bits_of x)

-- `sin_kernel`: y is none where the Rust's `iy` is 0
unfoldable pub sin_kernel : Float → Option Float → Float
sin_kernel x y =
    let z = x ⊗ x in
    let w = z ⊗ z in
    let r = s2 ⊕ z ⊗ (s3 ⊕ z ⊗ s4) ⊕ z ⊗ w ⊗ (s5 ⊕ z ⊗ s6) in
    let v = z ⊗ x in
    unwrap_or (option_map (λ t. x ⊖ (z ⊗ (half ⊗ t ⊖ v ⊗ r) ⊖ t ⊖ v ⊗ s1)) y) (x ⊕ v ⊗ (s1 ⊕ z ⊗ r))

-- `cos_kernel`
unfoldable pub cos_kernel : Float → Float → Float
cos_kernel x y =
    let z = x ⊗ x in
    let w = z ⊗ z in
    let r = z ⊗ (c1 ⊕ z ⊗ (c2 ⊕ z ⊗ c3)) ⊕ w ⊗ w ⊗ (c4 ⊕ z ⊗ (c5 ⊕ z ⊗ c6)) in
    let hz = half ⊗ z in
    let w1 = one ⊖ hz in
    w1 ⊕ ((one ⊖ w1 ⊖ hz) ⊕ (z ⊗ r ⊖ x ⊗ y))
