-- What a limit gives that is not a number, and what 1e-4 gives. Assumes nothing.
use mathlib.Core.Path.{◌≡◌, refl}
use lib.Ieee.{nan, of_bits, ne, lt}
use Rattle.float.specs.Ops.{lit}
use Rattle.float.specs.F64.{max_of}
use Rattle.mesh.specs.Scalar.{radians_of}
use Rattle.sharpen.specs.Crease.{min_radians}

-- a limit that is not a number acts as 1e-4
pub nan_limit : min_radians nan ≡ min_radians (lit 0x3f1a_36e2_eb1c_432d)
unfolding min_radians max_of of_bits ne lt
nan_limit = refl

-- and 1e-4 as itself
pub least_limit : min_radians (lit 0x3f1a_36e2_eb1c_432d) ≡ radians_of (lit 0x3f1a_36e2_eb1c_432d)
unfolding min_radians max_of of_bits ne lt
least_limit = refl
