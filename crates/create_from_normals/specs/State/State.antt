-- What `create_tangents_from_normals` reads of a normal, and what it carries on its way round a vertex cycle. H are the halfedges, A the face normals, `normal` gives the normal of a halfedge (`get_normal`).
use Rattle.std.specs.Prelude.{ℕ, ◌+◌, ◌*◌, ◌/◌, ◌≤◌, ◌<◌, List, Bool, true, false, cond, not, ◌&&◌, ◌||◌, length, ℤ, Float}
use Rattle.std.specs.Bool.{xor}
use Rattle.float.specs.Ops.{zero}
use Rattle.linalg.specs.declared.Vec3.{Vec3}
use Rattle.linalg.specs.Vec.{is_zero}
use Rattle.mesh.specs.Mesh.{halfedge_stride, no_index, Halfedges, prop_vert}
use Rattle.smoothing.specs.Directions.{equal_normals}
use Rattle.smoothing.specs.Lists.{point_at}
use Rattle.cycles.specs.Cycles.{next_around}
use Rattle.create_from_normals.specs.declared.state.FaceEdges.{FaceEdges}
use Rattle.create_from_normals.specs.declared.state.FaceEdges.TheVariants.{NoEdge, OneEdge, TwoEdges, Spoiled}
use Rattle.create_from_normals.specs.declared.state.StartHalfedge.{StartHalfedge}
use Rattle.create_from_normals.specs.declared.state.StartHalfedge.TheVariants.{NoneMissing, SomeMissing, StartAt}
use Rattle.create_from_normals.specs.declared.state.CycleState.{CycleState}

-- ---- what the lists must be for a call: only inner contracts cite it

-- an inner record: halfedge e of the list has its row in the row list G
pub record RowIn (list : List ℤ) (G : List Float) (e : ℕ) : Type 0 where
  pub within : e * halfedge_stride + halfedge_stride ≤ length list
  pub row_index : prop_vert list e < no_index
  pub row_in : prop_vert list e * 3 + 3 ≤ length G

-- ---- normals

-- `get_normal`: the normal of halfedge e of the list of halfedges, which stands at its row in the row list G. The one place where a row is read.
unfoldable pub get_normal : List ℤ → List Float → ℕ → Vec3
get_normal list G e = point_at G (prop_vert list e)

-- a normal, or another where it is missing: a missing one is zero (`is_zero`)
unfoldable pub normal_or : Vec3 → Vec3 → Vec3
normal_or v other = cond (is_zero v) other v

-- `here_is_flat`, `next_is_flat`: the normal of halfedge e is that of its triangle
unfoldable pub has_face_normal : List Float → (ℕ → Vec3) → ℕ → Bool
has_face_normal A normal e = equal_normals (normal e) (point_at A (e / 3))

-- `here_zero || next_zero`: the normal of halfedge e or that of the next one round its point is missing
unfoldable pub is_missing : Halfedges → (ℕ → Vec3) → ℕ → Bool
is_missing H normal e = is_zero (normal e) || is_zero (normal (next_around H e))

-- ---- `face_edges`

-- Another halfedge at which a flat face begins or ends. Once the Rust's first place is -2 it stays so, whatever goes to the second.
unfoldable pub add_face_edge : FaceEdges → ℕ → FaceEdges
add_face_edge NoEdge e = OneEdge e
add_face_edge (OneEdge a) e = TwoEdges a e
add_face_edge (TwoEdges a b) e = Spoiled
add_face_edge Spoiled e = Spoiled

-- after a halfedge e that is flat or not, and the next one
unfoldable pub next_face_edges : Bool → Bool → FaceEdges → ℕ → FaceEdges
next_face_edges here next f e = cond (xor here next) (add_face_edge f e) f

-- ---- `start_halfedge`

-- `if start_halfedge < 0 { start_halfedge = .. }`
unfoldable pub set_start : StartHalfedge → StartHalfedge → StartHalfedge
set_start NoneMissing to = to
set_start SomeMissing to = to
set_start (StartAt e) to = StartAt e

-- at a halfedge e whose normal is missing, by whether the next one's is
unfoldable pub missing_start : Bool → ℕ → StartHalfedge
missing_start next e = cond next SomeMissing (StartAt e)

-- after a halfedge e whose normal is missing or not, and the next one
unfoldable pub next_start : Bool → Bool → StartHalfedge → ℕ → StartHalfedge
next_start here next s e = cond here (set_start s (missing_start next e)) s

-- `start_halfedge != -1`
abbrev pub some_missing : StartHalfedge → Bool
some_missing NoneMissing = false
some_missing SomeMissing = true
some_missing (StartAt e) = true

-- ---- `last_normal`: the last normal that the next halfedge does not have

unfoldable pub next_last : Bool → Bool → Vec3 → Vec3 → Vec3
next_last here next normal last = cond (not here && next) normal last

-- ---- all three

abbrev pub zero_normal : Vec3
zero_normal = record { x = zero; y = zero; z = zero }

-- before the first halfedge
abbrev pub start_state : CycleState
start_state = record { face_edges = NoEdge; start_halfedge = NoneMissing; last_normal = zero_normal }

-- after halfedge e
unfoldable pub next_state : Halfedges → List Float → (ℕ → Vec3) → CycleState → ℕ → CycleState
next_state H A normal s e =
    let next = next_around H e in
    let here_zero = is_zero (normal e) in
    let next_zero = is_zero (normal next) in
    record {
      face_edges = next_face_edges (has_face_normal A normal e) (has_face_normal A normal next) s.face_edges e;
      start_halfedge = next_start here_zero next_zero s.start_halfedge e;
      last_normal = next_last here_zero next_zero (normal e) s.last_normal;
    }

-- `face_edges[0] = -2`: there is more than one normal at the point
unfoldable pub spoil_face_edges : CycleState → CycleState
spoil_face_edges s = record { face_edges = Spoiled; start_halfedge = s.start_halfedge; last_normal = s.last_normal }
