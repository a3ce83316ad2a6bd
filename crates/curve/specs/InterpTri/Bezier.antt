-- The curve of an edge, by src/interp_tri.rs: each definition is the Rust's, one rounded operation at a time. A control point has its coordinates already times its weight w.
use Rattle.std.specs.Prelude.{cond, Float}
use Rattle.std.specs.Float.Ieee.{eq, lt}
use Rattle.float.specs.Ops.{◌⊕◌, ◌⊖◌, ◌⊗◌, zero, lit}
use Rattle.linalg.specs.Vec.{sub3, div3, length_of}
use Rattle.linalg.specs.declared.Vec3.{Vec3}
use Rattle.linalg.specs.declared.Vec4.{Vec4}
use Rattle.curve.specs.declared.interp_tri.LinearSegment.{LinearSegment}

-- `hnormalize`: with a weight of either zero, the coordinates as they are
unfoldable pub hnormalize : Vec4 → Vec3
hnormalize v =
    let coordinates : Vec3 = record { x = v.x; y = v.y; z = v.z } in
    cond (eq v.w zero) coordinates (div3 coordinates v.w)

-- `lerp4`
unfoldable pub lerp4 : Vec4 → Vec4 → Float → Vec4
lerp4 a b t = record {
  x = a.x ⊕ (b.x ⊖ a.x) ⊗ t;
  y = a.y ⊕ (b.y ⊖ a.y) ⊗ t;
  z = a.z ⊕ (b.z ⊖ a.z) ⊗ t;
  w = a.w ⊕ (b.w ⊖ a.w) ⊗ t;
}

-- `cubic_bezier_2_linear`
unfoldable pub cubic_bezier_2_linear : Vec4 → Vec4 → Vec4 → Vec4 → Float → LinearSegment
cubic_bezier_2_linear p0 p1 p2 p3 x =
    let p12 = lerp4 p1 p2 x in
    record { left = lerp4 (lerp4 p0 p1 x) p12 x; right = lerp4 p12 (lerp4 p2 p3 x) x }

-- `bezier_point`
unfoldable pub bezier_point : LinearSegment → Float → Vec3
bezier_point points x = hnormalize (lerp4 points.left points.right x)

-- this file's own `safe_normalize`: zero for a length below 1e-30. The length is that of src/linalg.rs: the root of x x + y y + z z, summed in this order. Where that sum overflows the length is infinite, each finite number divided by it is a zero, and an infinite one is not a number; where the sum is not a number, neither is any number divided by the length.
unfoldable pub safe_normalize : Vec3 → Vec3
safe_normalize v =
    let len = length_of v in
    cond (lt len (lit 0x39b4_484b_feeb_c2a0)) (record { x = zero; y = zero; z = zero }) (div3 v len)

-- `bezier_tangent`: the direction from left to right. It has length 1 up to rounding, but for what `safe_normalize` says.
unfoldable pub bezier_tangent : LinearSegment → Vec3
bezier_tangent points = safe_normalize (sub3 (hnormalize points.right) (hnormalize points.left))
