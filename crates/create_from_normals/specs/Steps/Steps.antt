-- The bodies of the loops of `create_tangents_from_normals` over a vertex cycle, and its last step at a point; and what each adds to the count of circular tangents on an edge without direction. H are the halfedges, P the positions, A the face normals, `normal` gives the normal of a halfedge, `inside` which halfedges are inside a quad, T the tangents, X the fixed flags.
use Rattle.std.specs.Prelude.{ℕ, ◌<◌, List, Bool, cond, set, Float}
use Rattle.std.specs.Float.Ieee.{lt, eq, neg}
use Rattle.float.specs.Ops.{zero, one, three}
use Rattle.linalg.specs.declared.Vec3.{Vec3}
use Rattle.linalg.specs.declared.Vec4.{Vec4}
use Rattle.linalg.specs.Vec.{sub3, neg3, dot_of, cross_of, normalize_of}
use Rattle.mesh.specs.Mesh.{Halfedges}
use Rattle.smoothing.specs.Directions.{vec3_from_vec4, with_weight, equal_normals, circular_tangent}
use Rattle.smoothing.specs.Lists.{tangent_at, put_tangent, weight_at, is_marked_inside_quad}
use Rattle.smoothing.specs.Edges.{edge_vec, tangent_from_normal}
use Rattle.cycles.specs.Cycles.{next_around}
use Rattle.create_shared.specs.Makings.{Tangents, align_tangents, directionless_at, aligned_directionless}
use Rattle.create_from_normals.specs.declared.state.FaceEdges.{FaceEdges}
use Rattle.create_from_normals.specs.declared.state.FaceEdges.TheVariants.{NoEdge, OneEdge, TwoEdges, Spoiled}
use Rattle.create_from_normals.specs.declared.state.StartHalfedge.{StartHalfedge}
use Rattle.create_from_normals.specs.declared.state.StartHalfedge.TheVariants.{NoneMissing, SomeMissing, StartAt}
use Rattle.create_from_normals.specs.declared.state.CycleState.{CycleState}
use Rattle.create_from_normals.specs.State.State.{normal_or, is_missing, next_state, spoil_face_edges}

-- ---- what the state must be for a call: only inner contracts cite these

-- the halfedges that the state of a walk names all have Q
abbrev pub FaceEdgesNames : (ℕ → Type 0) → FaceEdges → Type 0
FaceEdgesNames Q NoEdge = Unit {0}
FaceEdgesNames Q (OneEdge a) = Q a
FaceEdgesNames Q (TwoEdges a b) = Q a × Q b
FaceEdgesNames Q Spoiled = Unit {0}

abbrev pub StartNames : (ℕ → Type 0) → StartHalfedge → Type 0
StartNames Q NoneMissing = Unit {0}
StartNames Q SomeMissing = Unit {0}
StartNames Q (StartAt e) = Q e

-- an inner record: both parts of the state
pub record StateNames (Q : ℕ → Type 0) (s : CycleState) : Type 0 where
  pub face_edges : FaceEdgesNames Q s.face_edges
  pub start_halfedge : StartNames Q s.start_halfedge

-- they are halfedges
abbrev pub FaceEdgesIn : ℕ → FaceEdges → Type 0
FaceEdgesIn n f = FaceEdgesNames (λ (a : ℕ). a < n) f

abbrev pub StartIn : ℕ → StartHalfedge → Type 0
StartIn n s = StartNames (λ (a : ℕ). a < n) s

abbrev pub StateIn : ℕ → CycleState → Type 0
StateIn n s = StateNames (λ (a : ℕ). a < n) s

-- ---- the tangent of a halfedge between two normals

-- `signed_dir`
unfoldable pub signed_dir : Vec3 → Vec3 → Vec3 → Vec3
signed_dir a b edge =
    let dir = cross_of a b in
    cond (lt (dot_of dir edge) zero) (neg3 dir) dir

-- `equal` says whether the two are equal
unfoldable pub tangent_between : Halfedges → List Float → List Float → Vec3 → Vec3 → Bool → ℕ → Vec4
tangent_between H P A a b equal e =
    cond equal (tangent_from_normal H P A a e) (circular_tangent (signed_dir a b (edge_vec H P e)) (edge_vec H P e))

-- ---- the loop round the vertex cycle

-- `K_INSIDE_QUAD` and `K_MISSING_NORMAL`
abbrev pub inside_quad_weight : Float
inside_quad_weight = neg one

abbrev pub missing_normal_weight : Float
missing_normal_weight = neg three

-- The tangent of halfedge e first: the flag clear, weight 1; or the last normal with the flag of a missing normal; or with the mark of a halfedge inside a quad.
unfoldable pub flag_tangent : Bool → Bool → Vec3 → Vec4 → Vec4
flag_tangent missing inside last t =
    cond inside (with_weight last inside_quad_weight)
    (cond missing (with_weight last missing_normal_weight) (with_weight (vec3_from_vec4 t) one))

-- what the loop changes
pub record Walk : Type 0 where
  pub tangents : List Float
  pub fixed : List ℕ
  pub state : CycleState

abbrev pub walk_of : List Float → List ℕ → CycleState → Walk
walk_of T X s = record { tangents = T; fixed = X; state = s }

-- A halfedge e without a flag. Where its normal and the next one differ, it is fixed, and no flat face is looked for.
unfoldable pub tangent_step : Halfedges → List Float → List Float → (ℕ → Vec3) → Walk → ℕ → Walk
tangent_step H P A normal m e =
    let here = normal e in
    let next = normal (next_around H e) in
    let equal = equal_normals next here in
    let T = put_tangent m.tangents e (tangent_between H P A here next equal e) in
    cond equal (walk_of T m.fixed m.state) (walk_of T (set m.fixed e 1) (spoil_face_edges m.state))

-- halfedge e with its flag, set or clear
abbrev pub flag_step : Halfedges → List Float → (ℕ → Vec3) → (ℕ → Bool) → Walk → ℕ → Walk
flag_step H A normal inside m e =
    let s = next_state H A normal m.state e in
    let t = flag_tangent (is_missing H normal e) (inside e) s.last_normal (tangent_at m.tangents e) in
    walk_of (put_tangent m.tangents e t) m.fixed s

-- the body of the loop, at halfedge e: `if tangent[halfedge].w < 0.0` there is a flag
unfoldable pub normal_step : Halfedges → List Float → List Float → (ℕ → Vec3) → (ℕ → Bool) → Walk → ℕ → Walk
normal_step H P A normal inside m e =
    let flagged = flag_step H A normal inside m e in
    cond (lt (weight_at flagged.tangents e) zero) flagged (tangent_step H P A normal flagged e)

-- what it counts: past `continue`, a circular tangent on the edge of e, whether `different_normals` or not
unfoldable pub normal_step_directionless : Halfedges → List Float → List Float → (ℕ → Vec3) → (ℕ → Bool) → Walk → ℕ → ℕ
normal_step_directionless H P A normal inside m e =
    cond (lt (weight_at (flag_step H A normal inside m e).tangents e) zero) 0 (directionless_at H P e)

-- ---- all normals are missing: the body of the loop that takes the point's normal

unfoldable pub vert_normal_step : Halfedges → List Float → List Float → Vec3 → List Float → ℕ → List Float
vert_normal_step H P A normal T e = cond (is_marked_inside_quad T e) T (put_tangent T e (tangent_from_normal H P A normal e))

-- what it counts: `tangent_from_normal(normal, halfedge)`, where `tangent[halfedge].w != K_INSIDE_QUAD`
unfoldable pub vert_normal_directionless : Halfedges → List Float → List Float → ℕ → ℕ
vert_normal_directionless H P T e = cond (is_marked_inside_quad T e) 0 (directionless_at H P e)

-- ---- some normals are missing: the body of the loop that goes round backwards

-- what it changes: the tangents, and `prev_norm`, the last normal that it has come by
pub record Fill : Type 0 where
  pub tangents : List Float
  pub prev_norm : Vec3

abbrev pub fill_of : List Float → Vec3 → Fill
fill_of T prev = record { tangents = T; prev_norm = prev }

-- The tangent of halfedge e, whose normal is missing. `next_norm` stands in the tangent, or is the last normal of the first walk.
unfoldable pub fill_tangent : Halfedges → List Float → List Float → Vec3 → Vec3 → Vec4 → ℕ → Vec4
fill_tangent H P A last prev t e =
    let next = normal_or (vec3_from_vec4 t) last in
    tangent_between H P A prev next (equal_normals prev next) e

unfoldable pub put_fill_tangent : Halfedges → List Float → List Float → Vec3 → Vec3 → List Float → ℕ → List Float
put_fill_tangent H P A last prev T e =
    cond (eq (weight_at T e) missing_normal_weight) (put_tangent T e (fill_tangent H P A last prev (tangent_at T e) e)) T

unfoldable pub fill_step : Halfedges → List Float → List Float → (ℕ → Vec3) → Vec3 → Fill → ℕ → Fill
fill_step H P A normal last m e =
    fill_of (put_fill_tangent H P A last m.prev_norm m.tangents e) (normal_or (normal e) m.prev_norm)

-- what it counts: the tangent that is filled in, where `tangent[current].w == K_MISSING_NORMAL`
unfoldable pub fill_directionless : Halfedges → List Float → List Float → ℕ → ℕ
fill_directionless H P T e = cond (eq (weight_at T e) missing_normal_weight) (directionless_at H P e) 0

-- ---- a single flat face: its two edges are aligned and fixed

-- `new_tangent`
unfoldable pub face_tangent : Halfedges → List Float → ℕ → ℕ → Vec3
face_tangent H P a b = sub3 (normalize_of (edge_vec H P a)) (normalize_of (edge_vec H P b))

unfoldable pub fix_face_edges : Halfedges → List Float → Tangents → ℕ → ℕ → Tangents
fix_face_edges H P m a b = align_tangents H P m a b (face_tangent H P a b)

unfoldable pub align_face_edges : Halfedges → List Float → Tangents → FaceEdges → Tangents
align_face_edges H P m NoEdge = m
align_face_edges H P m (OneEdge a) = m
align_face_edges H P m (TwoEdges a b) = fix_face_edges H P m a b
align_face_edges H P m Spoiled = m

-- what it counts: `circular_tangent(new_tangent, edge0)` and `circular_tangent(-new_tangent, edge1)`
unfoldable pub face_edges_directionless : Halfedges → List Float → FaceEdges → ℕ
face_edges_directionless H P NoEdge = 0
face_edges_directionless H P (OneEdge a) = 0
face_edges_directionless H P (TwoEdges a b) = aligned_directionless H P a b
face_edges_directionless H P Spoiled = 0
