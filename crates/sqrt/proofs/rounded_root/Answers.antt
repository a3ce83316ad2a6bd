-- `sqrt::rounded_root` meets its contract, by the laws of `proofs/LastBits.antt`. Assumes nothing.
use mathlib.Core.Path.{◌≡◌}
use Prim.Native.Nat.{ℕ, ◌+◌, ◌-◌, ◌*◌}
use native.Mathlib.Omega.{arith}
use Rattle.sqrt.specs.Steps.{RootEstimate}
use Rattle.sqrt.proofs.LastBits.{Bounds, last, scaled_le, bounds, stays, rises}
use Rattle.sqrt.proofs.rounded_root.Goals as goal

-- the code's d
abbrev rem : ℕ → ℕ → ℕ
rem n s = n * 1024 - s * s

module _ (n s r : ℕ) (h : RootEstimate n s r) where
  rem_is : s * s + rem n s ≡ 1024 * n
  rem_is = omega (arith, h.root)

  bounded : Bounds s (rem n s) (last (rem n s) r)
  bounded = bounds n _ _ _ h rem_is

pub overflow_mul-l : goal.overflow_mul-l
overflow_mul-l c = omega (arith, scaled_le c.args.n _ _ _ c.requires (rem_is _ _ _ c.requires))

pub overflow_mul-s : goal.overflow_mul-s
overflow_mul-s c = omega (arith, bounded _ _ _ c.requires)

pub overflow_mul-l-3 : goal.overflow_mul-l-3
overflow_mul-l-3 c = omega (arith, bounded _ _ _ c.requires)

pub overflow_add-s : goal.overflow_add-s
overflow_add-s c = omega (arith, bounded _ _ _ c.requires)

pub returns-then-s-l : goal.returns-then-s-l
returns-then-s-l c = rises c.args.n _ c.args.r _ c.requires (rem_is _ _ _ c.requires) c.if-s-l.true

pub returns-else-s-l : goal.returns-else-s-l
returns-else-s-l c = stays c.args.n _ c.args.r _ c.requires (rem_is _ _ _ c.requires) c.if-s-l.false
