-- `create_tangents_from_normals` of src/smoothing_tangents.rs: the tangents that it leaves on an accepted mesh, and how many circular tangents it computes on an edge without direction. H are the halfedges, P the positions, N the point normals, A the face normals, R the face references, `normal` gives the normal of a halfedge, T the tangents as lent, `old` whether these are old tangents, n and p the counts of halfedges and points.
use Rattle.std.specs.Prelude.{ℕ, ◌*◌, ◌≡◌, List, Bool, length, replicate, ℤ, Float}
use Rattle.float.specs.Ops.{zero}
use Rattle.linalg.specs.declared.Vec3.{Vec3}
use Rattle.mesh.specs.Mesh.{Halfedges}
use Rattle.smoothing.specs.Edges.{is_inside_quad}
use Rattle.create_shared.specs.Makings.{Tangents, tangents_of}
use Rattle.create_from_normals.specs.Walks.Walks.{normals_verts, normals_verts_directionless}
use Rattle.distribute.specs.Distribute.{spread_tangents}

-- ---- what the written lists must be for a call: only inner contracts cite these. T are the tangents, X, B, C, D and W the scratch lists `fixed`, `inside`, `current`, `desired` and `first`

-- an inner record: a tangent and two flags for each halfedge, and a place for each point
pub record MadeIn (T : List Float) (X B W : List ℕ) (n p : ℕ) : Type 0 where
  pub tangents : length T ≡ n * 4
  pub fixed : length X ≡ n
  pub inside : length B ≡ n
  pub points : length W ≡ p

-- an inner record: these, and two angles for each halfedge
pub record ScratchIn (T : List Float) (X B : List ℕ) (C D : List Float) (W : List ℕ) (n p : ℕ) : Type 0 where
  pub made : MadeIn T X B W n p
  pub current : length C ≡ n
  pub desired : length D ≡ n

-- ---- the tangents

-- each tangent is 0 and no halfedge fixed to begin with
abbrev pub no_tangents : ℕ → Tangents
no_tangents n = tangents_of (replicate (n * 4) zero) (replicate n 0)

-- Before spreading, of n halfedges and p points. The tangents of a further vertex cycle of a point stay 0.
unfoldable pub normal_tangents : Halfedges → List Float → List Float → List Float → List ℤ → (ℕ → Vec3) → List Float → Bool → ℕ → ℕ → Tangents
normal_tangents H P N A R normal T old n p =
    normals_verts H P N A normal (is_inside_quad H R T old) n p (no_tangents n)

-- `create_tangents_from_normals`
unfoldable pub create_tangents_from_normals : Halfedges → List Float → List Float → List Float → List ℤ → (ℕ → Vec3) → List Float → Bool → ℕ → ℕ → List Float
create_tangents_from_normals H P N A R normal T old n p =
    let m = normal_tangents H P N A R normal T old n p in
    (spread_tangents H P N m.fixed m.tangents n).tangents

-- ---- the count: the circular tangents that the making computes on an edge without direction, with those that are written over

-- of the loop over the points. Spreading computes no circular tangent.
unfoldable pub from_normals_directionless : Halfedges → List Float → List Float → List Float → List ℤ → (ℕ → Vec3) → List Float → Bool → ℕ → ℕ → ℕ
from_normals_directionless H P N A R normal T old n p =
    normals_verts_directionless H P N A normal (is_inside_quad H R T old) n p (no_tangents n)
