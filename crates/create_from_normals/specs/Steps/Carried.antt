-- The code's means: the steps at the lists that they are lent, a tangent by its direction, the body of the first loop by the normals that the walk carries, and a list of flags in which the code notes the halfedges inside a quad. Only contracts of functions inside the making cite these definitions. They say the outcome for any normals that are handed in; `proofs/StepsLaws/Carried.antt` says that for those of the lists it is the Rust's step.
use Rattle.std.specs.Prelude.{ℕ, List, Bool, cond, ◌||◌, get_or, set, eqb, Float}
use Rattle.linalg.specs.declared.Vec3.{Vec3}
use Rattle.linalg.specs.declared.Vec4.{Vec4}
use Rattle.mesh.specs.Mesh.{Halfedges, as_halfedges}
use Rattle.smoothing.specs.declared.CircularTangent.{CircularTangent}
use Rattle.smoothing.specs.Directions.{with_weight, directionless, equal_units}
use Rattle.smoothing.specs.Lists.{put_tangent}
use Rattle.smoothing.specs.Edges.{FacesIn, edge_vec}
use Rattle.smoothing.specs.Inner.{direction_from_normal}
use Rattle.create_shared.specs.declared.mesh_lists.MeshLists.{MeshLists}
use Rattle.create_shared.specs.Makings.{directionless_at}
use Rattle.create_from_normals.specs.declared.state.NormalPair.{NormalPair}
use Rattle.create_from_normals.specs.State.State.{get_normal, spoil_face_edges}
use Rattle.create_from_normals.specs.State.Carried.{next_state_of}
use Rattle.create_from_normals.specs.declared.steps.FaceLists.{FaceLists}
use Rattle.create_from_normals.specs.Steps.Steps.{signed_dir, tangent_between, inside_quad_weight, missing_normal_weight, Walk, walk_of, vert_normal_step, vert_normal_directionless, Fill, fill_tangent, put_fill_tangent, fill_step, fill_directionless}

-- ---- the lists that a step is lent

-- of a mesh
abbrev pub faces_of : MeshLists → FaceLists
faces_of l = record { h = l.h; pos = l.pos; face_normals = l.face_normals }

abbrev pub halfedges_of : FaceLists → Halfedges
halfedges_of l = as_halfedges l.h.now

-- what the lists must be for a step at halfedge e
abbrev pub FacesAt : FaceLists → ℕ → Type 0
FacesAt l e = FacesIn (halfedges_of l) l.pos.now l.face_normals.now e

-- halfedge e has flag 1
abbrev pub is_inside : List ℕ → ℕ → Bool
is_inside B e = eqb (get_or B e 0) 1

-- ---- the tangent of a halfedge between two normals

-- a circular tangent of halfedge e, and whether its edge has no direction
abbrev pub circular_at : FaceLists → Vec4 → ℕ → CircularTangent
circular_at l t e = record { tangent = t; directionless = directionless (edge_vec (halfedges_of l) l.pos.now e) }

-- the direction of the tangent of halfedge e, where its edge is known
unfoldable pub direction_between : FaceLists → Vec3 → Vec3 → Bool → Vec3 → ℕ → Vec3
direction_between l a b equal edge e =
    cond equal (direction_from_normal (halfedges_of l) l.face_normals.now a edge e) (signed_dir a b edge)

abbrev pub tangent_between_of : FaceLists → Vec3 → Vec3 → Bool → ℕ → CircularTangent
tangent_between_of l a b equal e =
    circular_at l (tangent_between (halfedges_of l) l.pos.now l.face_normals.now a b equal e) e

-- what a circular tangent of halfedge e counts
abbrev pub directionless_of : FaceLists → ℕ → ℕ
directionless_of l e = directionless_at (halfedges_of l) l.pos.now e

-- ---- the loop round the vertex cycle, by the normal of halfedge e and that of the next one round its point

-- `tangent_step`
unfoldable pub tangent_step_of : FaceLists → NormalPair → Walk → ℕ → Walk
tangent_step_of l normals m e =
    let here = normals.here in
    let next = normals.next in
    let equal = equal_units next.unit here.unit in
    let t = tangent_between (halfedges_of l) l.pos.now l.face_normals.now here.normal next.normal equal e in
    let T = put_tangent m.tangents e t in
    cond equal (walk_of T m.fixed m.state) (walk_of T (set m.fixed e 1) (spoil_face_edges m.state))

-- there is a flag
abbrev pub is_flagged : (ℕ → Bool) → NormalPair → ℕ → Bool
is_flagged inside normals e = inside e || (normals.here.zero || normals.next.zero)

-- `normal_step`. The tangent is written once: with a flag, or as `tangent_step_of` says.
unfoldable pub normal_step_of : FaceLists → (ℕ → Bool) → NormalPair → Walk → ℕ → Walk
normal_step_of l inside normals m e =
    let s = next_state_of m.state normals.here normals.next e in
    let flag = with_weight s.last_normal (cond (inside e) inside_quad_weight missing_normal_weight) in
    cond (is_flagged inside normals e)
    (walk_of (put_tangent m.tangents e flag) m.fixed s)
    (tangent_step_of l normals (walk_of m.tangents m.fixed s) e)

-- `normal_step_directionless`
unfoldable pub normal_step_directionless_of : FaceLists → (ℕ → Bool) → NormalPair → ℕ → ℕ
normal_step_directionless_of l inside normals e = cond (is_flagged inside normals e) 0 (directionless_of l e)

-- ---- missing normals

abbrev pub vert_normal_step_of : FaceLists → Vec3 → List Float → ℕ → List Float
vert_normal_step_of l normal T e = vert_normal_step (halfedges_of l) l.pos.now l.face_normals.now normal T e

abbrev pub vert_normal_directionless_of : FaceLists → List Float → ℕ → ℕ
vert_normal_directionless_of l T e = vert_normal_directionless (halfedges_of l) l.pos.now T e

abbrev pub fill_tangent_of : FaceLists → Vec3 → Vec3 → Vec4 → ℕ → CircularTangent
fill_tangent_of l last prev t e =
    circular_at l (fill_tangent (halfedges_of l) l.pos.now l.face_normals.now last prev t e) e

abbrev pub put_fill_tangent_of : FaceLists → Vec3 → Vec3 → List Float → ℕ → List Float
put_fill_tangent_of l last prev T e = put_fill_tangent (halfedges_of l) l.pos.now l.face_normals.now last prev T e

-- G is the row list
abbrev pub fill_step_of : FaceLists → List Float → Vec3 → Fill → ℕ → Fill
fill_step_of l G last m e = fill_step (halfedges_of l) l.pos.now l.face_normals.now (get_normal l.h.now G) last m e

abbrev pub fill_directionless_of : FaceLists → List Float → ℕ → ℕ
fill_directionless_of l T e = fill_directionless (halfedges_of l) l.pos.now T e
