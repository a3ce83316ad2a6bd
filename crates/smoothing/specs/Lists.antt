-- Three and four numbers of a flat list as one value, the weight alone, and the mark.
use Rattle.std.specs.Prelude.{ℕ, ◌+◌, ◌*◌, List, Bool, get_or, set, Float}
use Rattle.std.specs.Float.{nan}
use Rattle.std.specs.Float.Ieee.{eq, neg}
use Rattle.float.specs.Ops.{one}
use Rattle.linalg.specs.declared.Vec3.{Vec3}
use Rattle.linalg.specs.declared.Vec4.{Vec4}

-- the point, or the normal, k: three numbers; not-a-number past the end
unfoldable pub point_at : List Float → ℕ → Vec3
point_at P k = record { x = get_or P (k * 3) nan; y = get_or P (k * 3 + 1) nan; z = get_or P (k * 3 + 2) nan }

-- the list with another point k
unfoldable pub put_point : List Float → ℕ → Vec3 → List Float
put_point P k a = set (set (set P (k * 3) a.x) (k * 3 + 1) a.y) (k * 3 + 2) a.z

-- the tangent of halfedge e, `halfedge_tangent[e]`: four numbers; not-a-number past the end
unfoldable pub tangent_at : List Float → ℕ → Vec4
tangent_at T e = record {
  x = get_or T (e * 4) nan;
  y = get_or T (e * 4 + 1) nan;
  z = get_or T (e * 4 + 2) nan;
  w = get_or T (e * 4 + 3) nan;
}

-- the list with another tangent for halfedge e
unfoldable pub put_tangent : List Float → ℕ → Vec4 → List Float
put_tangent T e v = set (set (set (set T (e * 4) v.x) (e * 4 + 1) v.y) (e * 4 + 2) v.z) (e * 4 + 3) v.w

-- the weight of halfedge e, `halfedge_tangent[e].w`
unfoldable pub weight_at : List Float → ℕ → Float
weight_at T e = get_or T (e * 4 + 3) nan

-- `is_marked_inside_quad`. The Rust's answer for an empty list, no mark, is in it: past the end the weight is not a number, which equals nothing.
abbrev pub is_marked_inside_quad : List Float → ℕ → Bool
is_marked_inside_quad T e = eq (weight_at T e) (neg one)
