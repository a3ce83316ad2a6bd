-- The code's means: a walk round a vertex cycle carries the normals from halfedge to halfedge, and takes a unit vector over where a normal is the same bit for bit. Only contracts of functions inside the making cite these definitions. They say the outcome for any normals that are handed in; `proofs/StateLaws/Carried.antt` says that for those of the lists it is the Rust's step.
use Rattle.std.specs.Prelude.{ℕ, ◌/◌, List, Bool, ◌&&◌, eqb, Float}
use Rattle.float.specs.F64.{bits_of}
use Rattle.linalg.specs.declared.Vec3.{Vec3}
use Rattle.linalg.specs.Vec.{is_zero}
use Rattle.smoothing.specs.Directions.{safe_normalize, equal_units}
use Rattle.smoothing.specs.Lists.{point_at}
use Rattle.create_from_normals.specs.declared.state.HalfedgeNormal.{HalfedgeNormal}
use Rattle.create_from_normals.specs.declared.state.CycleState.{CycleState}
use Rattle.create_from_normals.specs.State.State.{next_face_edges, next_start, next_last}

-- the normal of halfedge e with what the loop asks of it: its unit vector, `here_zero`, `here_is_flat`; U are the unit vectors of the triangles' normals
unfoldable pub halfedge_normal : List Float → (ℕ → Vec3) → ℕ → HalfedgeNormal
halfedge_normal U normal e = record {
  normal = normal e;
  unit = safe_normalize (normal e);
  zero = is_zero (normal e);
  flat = equal_units (safe_normalize (normal e)) (point_at U (e / 3));
}

-- the same bit for bit
unfoldable pub same_bits : Float → Float → Bool
same_bits a b = eqb (bits_of a) (bits_of b)

unfoldable pub same_normal : Vec3 → Vec3 → Bool
same_normal a b = same_bits a.x b.x && same_bits a.y b.y && same_bits a.z b.z

-- `next_state`, where `here` is the normal of halfedge e and `next` that of the next one round its point
unfoldable pub next_state_of : CycleState → HalfedgeNormal → HalfedgeNormal → ℕ → CycleState
next_state_of s here next e = record {
  face_edges = next_face_edges here.flat next.flat s.face_edges e;
  start_halfedge = next_start here.zero next.zero s.start_halfedge e;
  last_normal = next_last here.zero next.zero here.normal s.last_normal;
}
