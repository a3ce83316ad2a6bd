-- `sqrt::sqrt_significand` meets its contract: two of Newton's steps to the reciprocal square root, then the root and its last bits. Assumes nothing.
use Prim.Native.Nat.{◌/◌, ◌^◌}
use native.Mathlib.Omega.{arith}
use Rattle.sqrt.proofs.Reciprocals.{product_fits, smaller, segment_range, rooted}
use Rattle.sqrt.proofs.sqrt_significand.Goals as goal

pub overflow_mul-n : goal.overflow_mul-n
overflow_mul-n c =
    let g = segment_range _ _ c.requires in
    omega (arith, product_fits {a = c.args.n / 2 ^ 22} (omega (arith, g)) (smaller _ _ g.0 c.newton_step-r.ensures.below))

pub rounded_root-requires : goal.rounded_root-requires
rounded_root-requires c =
    let g = segment_range _ _ c.requires in rooted _ _ g.0 g.1 c.newton_step-r.ensures
