-- `math::acos_small`: the bits of its constant are a number's. Assumes nothing.
use lib.Ieee.{nan_bits}
use Rattle.math.proofs.acos_small.Goals as goal

pub float_from_bits-result : goal.float_from_bits-result
unfolding nan_bits
float_from_bits-result c = tt
