-- The vectors and quaternions of src/linalg.rs: each definition is the Rust's, one rounded operation at a time.
use Rattle.std.specs.Prelude.{Bool, ◌&&◌, Float}
use Rattle.std.specs.Float.Ieee.{neg, eq}
use Rattle.float.specs.Ops.{◌⊕◌, ◌⊖◌, ◌⊗◌, ◌⊘◌, zero, two}
use Rattle.sqrt.specs.Sqrt.{sqrt_of}
use Rattle.math.specs.Trig.{sin_of, cos_of}
use Rattle.linalg.specs.declared.Vec3.{Vec3}
use Rattle.linalg.specs.declared.Vec4.{Vec4}

-- the operators of `Vec3`
unfoldable pub add3 : Vec3 → Vec3 → Vec3
add3 a b = record { x = a.x ⊕ b.x; y = a.y ⊕ b.y; z = a.z ⊕ b.z }

unfoldable pub sub3 : Vec3 → Vec3 → Vec3
sub3 a b = record { x = a.x ⊖ b.x; y = a.y ⊖ b.y; z = a.z ⊖ b.z }

unfoldable pub neg3 : Vec3 → Vec3
neg3 a = record { x = neg a.x; y = neg a.y; z = neg a.z }

unfoldable pub scale3 : Vec3 → Float → Vec3
scale3 a s = record { x = a.x ⊗ s; y = a.y ⊗ s; z = a.z ⊗ s }

unfoldable pub div3 : Vec3 → Float → Vec3
div3 a s = record { x = a.x ⊘ s; y = a.y ⊘ s; z = a.z ⊘ s }

-- `== Vec3::new(0.0, 0.0, 0.0)`: each number is a zero of either sign, and none is not-a-number
unfoldable pub is_zero : Vec3 → Bool
is_zero a = eq a.x zero && eq a.y zero && eq a.z zero

-- `dot`
unfoldable pub dot_of : Vec3 → Vec3 → Float
dot_of a b = a.x ⊗ b.x ⊕ a.y ⊗ b.y ⊕ a.z ⊗ b.z

-- `cross`
unfoldable pub cross_of : Vec3 → Vec3 → Vec3
cross_of a b = record {
  x = a.y ⊗ b.z ⊖ a.z ⊗ b.y;
  y = a.z ⊗ b.x ⊖ a.x ⊗ b.z;
  z = a.x ⊗ b.y ⊖ a.y ⊗ b.x;
}

-- `qxdir`
unfoldable pub qxdir_of : Vec4 → Vec3
qxdir_of q = record {
  x = q.w ⊗ q.w ⊕ q.x ⊗ q.x ⊖ q.y ⊗ q.y ⊖ q.z ⊗ q.z;
  y = (q.x ⊗ q.y ⊕ q.z ⊗ q.w) ⊗ two;
  z = (q.z ⊗ q.x ⊖ q.y ⊗ q.w) ⊗ two;
}

-- `qydir`
unfoldable pub qydir_of : Vec4 → Vec3
qydir_of q = record {
  x = (q.x ⊗ q.y ⊖ q.z ⊗ q.w) ⊗ two;
  y = q.w ⊗ q.w ⊖ q.x ⊗ q.x ⊕ q.y ⊗ q.y ⊖ q.z ⊗ q.z;
  z = (q.y ⊗ q.z ⊕ q.x ⊗ q.w) ⊗ two;
}

-- `qzdir`
unfoldable pub qzdir_of : Vec4 → Vec3
qzdir_of q = record {
  x = (q.z ⊗ q.x ⊕ q.y ⊗ q.w) ⊗ two;
  y = (q.y ⊗ q.z ⊖ q.x ⊗ q.w) ⊗ two;
  z = q.w ⊗ q.w ⊖ q.x ⊗ q.x ⊖ q.y ⊗ q.y ⊕ q.z ⊗ q.z;
}

-- `qrot`
unfoldable pub qrot_of : Vec4 → Vec3 → Vec3
qrot_of q v = add3 (add3 (scale3 (qxdir_of q) v.x) (scale3 (qydir_of q) v.y)) (scale3 (qzdir_of q) v.z)

-- `length2`
unfoldable pub length2_of : Vec3 → Float
length2_of a = dot_of a a

-- `length`
unfoldable pub length_of : Vec3 → Float
length_of a = sqrt_of (length2_of a)

-- `normalize`
unfoldable pub normalize_of : Vec3 → Vec3
normalize_of a = div3 a (length_of a)

-- `rotation_quat_axis_angle`: the Rust works `sin(angle / 2.0)` out three times, with one result
unfoldable pub rotation_quat_axis_angle : Vec3 → Float → Vec4
rotation_quat_axis_angle axis angle =
    let s = sin_of (angle ⊘ two) in
    record { x = axis.x ⊗ s; y = axis.y ⊗ s; z = axis.z ⊗ s; w = cos_of (angle ⊘ two) }
