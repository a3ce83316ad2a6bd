-- Square roots by the definition: those of 2 and of the largest value, which are rounded, and that of the smallest, a subnormal value, which is exact.
use Rattle.std.specs.Prelude.{◌≡◌}
use Rattle.float.specs.Ops.{lit}
use Rattle.sqrt.specs.Sqrt.{sqrt_of}

pub record RootsHold : Type 0 where
  -- 2.0 gives 1.4142135623730951
  pub two : sqrt_of (lit 0x4000_0000_0000_0000) ≡ lit 0x3ff6_a09e_667f_3bcd
  -- f64::MAX gives 1.3407807929942596e154
  pub largest : sqrt_of (lit 0x7fef_ffff_ffff_ffff) ≡ lit 0x5fef_ffff_ffff_ffff
  -- 5e-324, which is 2 ^ -1074, gives 2 ^ -537
  pub smallest : sqrt_of (lit 1) ≡ lit 0x1e60_0000_0000_0000
