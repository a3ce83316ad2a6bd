-- The loops of `create_tangents_from_normals` round a vertex cycle, what it does at a point, and the loop over the points; and what each adds to the count of circular tangents on an edge without direction, by the same steps. H are the halfedges, P the positions, N the point normals, A the face normals, `normal` gives the normal of a halfedge, `inside` which halfedges are inside a quad, n how many halfedges there are, T the tangents.
use Rattle.std.specs.Prelude.{ℕ, ◌+◌, Bool, cond, ◌&&◌, ltb, Float}
use mathlib.Core.List.{List, foldl}
use Rattle.linalg.specs.declared.Vec3.{Vec3}
use Rattle.common.specs.Fold.{fold_to}
use Rattle.common.specs.Counted.{counted, count_step}
use Rattle.linalg.specs.Vec.{is_zero}
use Rattle.mesh.specs.Mesh.{Halfedges}
use Rattle.smoothing.specs.Lists.{point_at}
use Rattle.create_shared.specs.Makings.{Tangents, tangents_of}
use Rattle.cycles.specs.Cycles.{next_around, vertex_cycle, vertex_cycle_back}
use Rattle.create_shared.specs.Verts.{vert_halfedge}
use Rattle.create_from_normals.specs.declared.state.StartHalfedge.{StartHalfedge}
use Rattle.create_from_normals.specs.declared.state.StartHalfedge.TheVariants.{NoneMissing, SomeMissing, StartAt}
use Rattle.create_from_normals.specs.State.State.{some_missing, start_state}
use Rattle.create_from_normals.specs.Steps.Steps.{Walk, walk_of, normal_step, normal_step_directionless, vert_normal_step, vert_normal_directionless, Fill, fill_of, fill_step, fill_directionless, align_face_edges, face_edges_directionless}

-- ---- the loops round a vertex cycle

-- the first, from halfedge e
unfoldable pub normal_walk : Halfedges → List Float → List Float → (ℕ → Vec3) → (ℕ → Bool) → ℕ → Tangents → ℕ → Walk
normal_walk H P A normal inside n m e = foldl (normal_step H P A normal inside) (walk_of m.tangents m.fixed start_state) (vertex_cycle H n e)

-- all normals are missing: `normal` is the point's
unfoldable pub vert_normal_walk : Halfedges → List Float → List Float → ℕ → Vec3 → List Float → ℕ → List Float
vert_normal_walk H P A n normal T e = foldl (vert_normal_step H P A normal) T (vertex_cycle H n e)

-- some are missing: backwards from `start`; `last` is the last normal of the first loop
unfoldable pub fill_walk : Halfedges → List Float → List Float → (ℕ → Vec3) → ℕ → Vec3 → List Float → ℕ → List Float
fill_walk H P A normal n last T start =
    (foldl (fill_step H P A normal last) (fill_of T (normal (next_around H start))) (vertex_cycle_back H n start)).tangents

-- `if start_halfedge >= 0`
unfoldable pub fill_missing : Halfedges → List Float → List Float → (ℕ → Vec3) → ℕ → Vec3 → List Float → StartHalfedge → List Float
fill_missing H P A normal n last T NoneMissing = T
fill_missing H P A normal n last T SomeMissing = T
fill_missing H P A normal n last T (StartAt start) = fill_walk H P A normal n last T start

-- ---- what they count

-- each of the first loop
unfoldable pub normal_walk_directionless : Halfedges → List Float → List Float → (ℕ → Vec3) → (ℕ → Bool) → ℕ → Tangents → ℕ → ℕ
normal_walk_directionless H P A normal inside n m e =
    (foldl (count_step (normal_step H P A normal inside) (normal_step_directionless H P A normal inside)) (counted (walk_of m.tangents m.fixed start_state) 0) (vertex_cycle H n e)).count

-- each of a point whose normals are all missing
unfoldable pub vert_normal_walk_directionless : Halfedges → List Float → List Float → ℕ → Vec3 → List Float → ℕ → ℕ
vert_normal_walk_directionless H P A n normal T e =
    (foldl (count_step (vert_normal_step H P A normal) (vert_normal_directionless H P)) (counted T 0) (vertex_cycle H n e)).count

-- each one filled in
unfoldable pub fill_walk_directionless : Halfedges → List Float → List Float → (ℕ → Vec3) → ℕ → Vec3 → List Float → ℕ → ℕ
fill_walk_directionless H P A normal n last T start =
    (foldl (count_step (fill_step H P A normal last) (λ (m : Fill). fill_directionless H P m.tangents)) (counted (fill_of T (normal (next_around H start))) 0) (vertex_cycle_back H n start)).count

unfoldable pub fill_missing_directionless : Halfedges → List Float → List Float → (ℕ → Vec3) → ℕ → Vec3 → List Float → StartHalfedge → ℕ
fill_missing_directionless H P A normal n last T NoneMissing = 0
fill_missing_directionless H P A normal n last T SomeMissing = 0
fill_missing_directionless H P A normal n last T (StartAt start) = fill_walk_directionless H P A normal n last T start

-- ---- a point

-- what follows the first loop, at point v, with its lowest halfedge e
unfoldable pub finish_vert : Halfedges → List Float → List Float → List Float → (ℕ → Vec3) → ℕ → Walk → ℕ → ℕ → Tangents
finish_vert H P N A normal n m v e =
    let s = m.state in
    cond (some_missing s.start_halfedge && is_zero s.last_normal)
    (tangents_of (vert_normal_walk H P A n (point_at N v) m.tangents e) m.fixed)
    (align_face_edges H P (tangents_of (fill_missing H P A normal n s.last_normal m.tangents s.start_halfedge) m.fixed) s.face_edges)

-- the body of the loop over the points: nothing where no halfedge starts at v
unfoldable pub normals_vert : Halfedges → List Float → List Float → List Float → (ℕ → Vec3) → (ℕ → Bool) → ℕ → Tangents → ℕ → Tangents
normals_vert H P N A normal inside n m v =
    let e = vert_halfedge H n v in
    cond (ltb e n) (finish_vert H P N A normal n (normal_walk H P A normal inside n m e) v e) m

-- all p points
unfoldable pub normals_verts : Halfedges → List Float → List Float → List Float → (ℕ → Vec3) → (ℕ → Bool) → ℕ → ℕ → Tangents → Tangents
normals_verts H P N A normal inside n p m = fold_to (normals_vert H P N A normal inside n) m p

-- ---- what they count

-- what follows the first loop: with all normals missing that is all; else those filled in, and both edges of a single flat face
unfoldable pub finish_vert_directionless : Halfedges → List Float → List Float → List Float → (ℕ → Vec3) → ℕ → Walk → ℕ → ℕ → ℕ
finish_vert_directionless H P N A normal n m v e =
    let s = m.state in
    cond (some_missing s.start_halfedge && is_zero s.last_normal)
    (vert_normal_walk_directionless H P A n (point_at N v) m.tangents e)
    (fill_missing_directionless H P A normal n s.last_normal m.tangents s.start_halfedge + face_edges_directionless H P s.face_edges)

-- a point v
unfoldable pub normals_vert_directionless : Halfedges → List Float → List Float → List Float → (ℕ → Vec3) → (ℕ → Bool) → ℕ → Tangents → ℕ → ℕ
normals_vert_directionless H P N A normal inside n m v =
    let e = vert_halfedge H n v in
    cond (ltb e n)
    (normal_walk_directionless H P A normal inside n m e + finish_vert_directionless H P N A normal n (normal_walk H P A normal inside n m e) v e)
    0

-- all p points
unfoldable pub normals_verts_directionless : Halfedges → List Float → List Float → List Float → (ℕ → Vec3) → (ℕ → Bool) → ℕ → ℕ → Tangents → ℕ
normals_verts_directionless H P N A normal inside n p m =
    (fold_to (count_step (normals_vert H P N A normal inside n) (normals_vert_directionless H P N A normal inside n)) (counted m 0) p).count
