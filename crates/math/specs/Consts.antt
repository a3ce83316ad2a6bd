-- The constants of src/math.rs by their bit patterns, each under the Rust's name, with its decimal as the Rust writes it.
use Rattle.std.specs.Prelude.{Float}
use Rattle.float.specs.Ops.{lit}

-- -1.66666666666666324348e-01
abbrev pub s1 : Float
s1 = lit 0xbfc5_5555_5555_5549

-- 8.33333333332248946124e-03
abbrev pub s2 : Float
s2 = lit 0x3f81_1111_1110_f8a6

-- -1.98412698298579493134e-04
abbrev pub s3 : Float
s3 = lit 0xbf2a_01a0_19c1_61d5

-- 2.75573137070700676789e-06
abbrev pub s4 : Float
s4 = lit 0x3ec7_1de3_57b1_fe7d

-- -2.50507602534068634195e-08
abbrev pub s5 : Float
s5 = lit 0xbe5a_e5e6_8a2b_9ceb

-- 1.58969099521155010221e-10
abbrev pub s6 : Float
s6 = lit 0x3de5_d93a_5acf_d57c

-- 4.16666666666666019037e-02
abbrev pub c1 : Float
c1 = lit 0x3fa5_5555_5555_554c

-- -1.38888888888741095749e-03
abbrev pub c2 : Float
c2 = lit 0xbf56_c16c_16c1_5177

-- 2.48015872894767294178e-05
abbrev pub c3 : Float
c3 = lit 0x3efa_01a0_19cb_1590

-- -2.75573143513906633035e-07
abbrev pub c4 : Float
c4 = lit 0xbe92_7e4f_809c_52ad

-- 2.08757232129817482790e-09
abbrev pub c5 : Float
c5 = lit 0x3e21_ee9e_bdb4_b1c4

-- -1.13596475577881948265e-11
abbrev pub c6 : Float
c6 = lit 0xbda8_fae9_be88_38d4

-- 1.57079632673412561417e+00
abbrev pub pio2_1 : Float
pio2_1 = lit 0x3ff9_21fb_5440_0000

-- 6.07710050650619224932e-11
abbrev pub pio2_1t : Float
pio2_1t = lit 0x3dd0_b461_1a62_6331

-- 1.57079632679489661923132169163975144
abbrev pub half_pi : Float
half_pi = lit 0x3ff9_21fb_5444_2d18

-- 1.5 / f64::EPSILON
abbrev pub toint : Float
toint = lit 0x4338_0000_0000_0000

-- 7.85398163397448278999e-01
abbrev pub pio4 : Float
pio4 = lit 0x3fe9_21fb_5444_2d18

-- 6.36619772367581382433e-01
abbrev pub invpio2 : Float
invpio2 = lit 0x3fe4_5f30_6dc9_c883

-- 6.07710050630396597660e-11
abbrev pub pio2_2 : Float
pio2_2 = lit 0x3dd0_b461_1a60_0000

-- 2.02226624879595063154e-21
abbrev pub pio2_2t : Float
pio2_2t = lit 0x3ba3_198a_2e03_7073

-- 2.02226624871116645580e-21
abbrev pub pio2_3 : Float
pio2_3 = lit 0x3ba3_198a_2e00_0000

-- 8.47842766036889956997e-32
abbrev pub pio2_3t : Float
pio2_3t = lit 0x397b_839a_2520_49c1

-- 1.57079632679489655800e+00
abbrev pub pio2_hi : Float
pio2_hi = lit 0x3ff9_21fb_5444_2d18

-- 6.12323399573676603587e-17
abbrev pub pio2_lo : Float
pio2_lo = lit 0x3c91_a626_3314_5c07

-- 1.66666666666666657415e-01
abbrev pub ps0 : Float
ps0 = lit 0x3fc5_5555_5555_5555

-- -3.25565818622400915405e-01
abbrev pub ps1 : Float
ps1 = lit 0xbfd4_d612_03eb_6f7d

-- 2.01212532134862925881e-01
abbrev pub ps2 : Float
ps2 = lit 0x3fc9_c155_0e88_4455

-- -4.00555345006794114027e-02
abbrev pub ps3 : Float
ps3 = lit 0xbfa4_8228_b568_8f3b

-- 7.91534994289814532176e-04
abbrev pub ps4 : Float
ps4 = lit 0x3f49_efe0_7501_b288

-- 3.47933107596021167570e-05
abbrev pub ps5 : Float
ps5 = lit 0x3f02_3de1_0dfd_f709

-- -2.40339491173441421878e+00
abbrev pub qs1 : Float
qs1 = lit 0xc003_3a27_1c8a_2d4b

-- 2.02094576023350569471e+00
abbrev pub qs2 : Float
qs2 = lit 0x4000_2ae5_9c59_8ac8

-- -6.88283971605453293030e-01
abbrev pub qs3 : Float
qs3 = lit 0xbfe6_066c_1b8d_0159

-- 7.70381505559019352791e-02
abbrev pub qs4 : Float
qs4 = lit 0x3fb3_b8c5_b12e_9282

-- f64::from_bits(0x3987_0000_0000_0000): 1.4375 * 2 ^ -103, though the Rust's comment says 2 ^ -120
abbrev pub tiny : Float
tiny = lit 0x3987_0000_0000_0000
