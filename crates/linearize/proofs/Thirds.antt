-- The quotient of a negated vector is the negated quotient: rounding is the same on both sides of zero.
use Prim.Native.Nat.{ℕ}
use mathlib.Core.Path.{◌≡◌}
use mathlib.Core.Bool.{true}
use mathlib.Core.List.{List}
use lib.Ieee.{Float}
use Rattle.float.specs.Ops.{three}
use Rattle.float.proofs.Signs.{neg_div}
use Rattle.linalg.specs.declared.Vec3.{Vec3}
use Rattle.linalg.specs.declared.Vec4.{Vec4}
use Rattle.linalg.specs.Vec.{div3, neg3}
use Rattle.smoothing.specs.Lists.{put_tangent}
use Rattle.linearize.specs.Linearize.{is_flat, with_unit_weight, linearized, linearize_end, linearize_edge}

div3_neg : (v : Vec3) (c : Float) → div3 (neg3 v) c ≡ neg3 (div3 v c)
unfolding div3 neg3
div3_neg v c = rw (neg_div v.x c, neg_div v.y c, neg_div v.z c)

-- both ends of an edge where both are flat
pub both_flat : (T : List Float) (e pair : ℕ) (edge : Vec3) (tangent other : Vec4) → is_flat tangent ≡ true → is_flat other ≡ true → linearize_edge T e pair edge tangent other ≡ put_tangent (put_tangent T e (with_unit_weight (div3 edge three))) pair (with_unit_weight (neg3 (div3 edge three)))
unfolding linearize_edge linearize_end linearized
both_flat T e pair edge tangent other f g = rw (f, g, div3_neg edge three)
