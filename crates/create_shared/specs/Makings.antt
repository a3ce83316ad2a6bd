-- What both makings write: the tangents, and a flag for each halfedge that is fixed; and what they count. H are the halfedges, P the positions, T the tangents, n how many halfedges there are.
use Rattle.std.specs.Prelude.{ℕ, ◌*◌, ◌+◌, ◌≡◌, List, cond, length, set, Float}
use Rattle.linalg.specs.declared.Vec3.{Vec3}
use Rattle.linalg.specs.Vec.{neg3}
use Rattle.mesh.specs.Mesh.{halfedge_stride, Halfedges}
use Rattle.mesh.specs.Sound.{Sound}
use Rattle.smoothing.specs.Directions.{directionless, circular_tangent}
use Rattle.smoothing.specs.Lists.{put_tangent}
use Rattle.smoothing.specs.Edges.{edge_vec}

-- ---- what the lists must be for a call: only inner contracts cite these

-- an inner record: a sound mesh, and a tangent for each of its n halfedges
pub record TangentsIn (H : Halfedges) (T : List Float) (n : ℕ) : Type 0 where
  pub points : ℕ
  pub sound : Sound H n points
  pub whole : H.numbers ≡ n * halfedge_stride
  pub tangents : length T ≡ n * 4

-- an inner record: a position for each point, a tangent and a fixed flag for each halfedge
pub record MakingIn (H : Halfedges) (P T : List Float) (X : List ℕ) (n : ℕ) : Type 0 where
  pub tangents : TangentsIn H T n
  pub positions : length P ≡ tangents.points * 3
  pub fixed : length X ≡ n

-- ---- what a loop over the points changes: `halfedge_tangent`, and `fixed_halfedge` with a 1 for each halfedge that is fixed

pub record Tangents : Type 0 where
  pub tangents : List Float
  pub fixed : List ℕ

abbrev pub tangents_of : List Float → List ℕ → Tangents
tangents_of T X = record { tangents = T; fixed = X }

-- ---- two halfedges of a point along one line

-- `circular_tangent` with the edge of halfedge e, stored at e
unfoldable pub put_circular_tangent : Halfedges → List Float → List Float → ℕ → Vec3 → List Float
put_circular_tangent H P T e dir = put_tangent T e (circular_tangent dir (edge_vec H P e))

-- Both are fixed, the first with a tangent in the direction `dir`, which is `new_tangent`, the second in the opposite one. For a crease the Rust takes both edges from the start of the first: each starts at the point, so its own edge vector is the same.
unfoldable pub align_tangents : Halfedges → List Float → Tangents → ℕ → ℕ → Vec3 → Tangents
align_tangents H P m first second dir =
    tangents_of
    (put_circular_tangent H P (put_circular_tangent H P m.tangents first dir) second (neg3 dir))
    (set (set m.fixed first 1) second 1)

-- ---- the count: the circular tangents on an edge without direction, those that are written over later too

-- a circular tangent of halfedge e, with its edge, counts 1 where the edge has no direction
unfoldable pub directionless_at : Halfedges → List Float → ℕ → ℕ
directionless_at H P e = cond (directionless (edge_vec H P e)) 1 0

-- both of `align_tangents`
unfoldable pub aligned_directionless : Halfedges → List Float → ℕ → ℕ → ℕ
aligned_directionless H P first second = directionless_at H P first + directionless_at H P second
