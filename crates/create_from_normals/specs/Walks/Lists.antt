-- The loops of `create_tangents_from_normals` over the lists of a call: what its definitions say at `NormalLists` and `WalkLists`. Only contracts of functions inside the making cite these.
use Rattle.std.specs.Prelude.{ℕ, List, Float}
use Rattle.linalg.specs.declared.Vec3.{Vec3}
use Rattle.mesh.specs.Mesh.{Halfedges, as_halfedges}
use Rattle.create_shared.specs.Makings.{Tangents}
use Rattle.create_from_normals.specs.declared.state.StartHalfedge.{StartHalfedge}
use Rattle.create_from_normals.specs.State.State.{get_normal}
use Rattle.create_from_normals.specs.Steps.Steps.{Walk}
use Rattle.create_from_normals.specs.Steps.Carried.{is_inside}
use Rattle.create_from_normals.specs.declared.walks.lists.NormalLists.{NormalLists}
use Rattle.create_from_normals.specs.declared.walks.lists.WalkLists.{WalkLists}
use Rattle.create_from_normals.specs.Walks.Walks.{normal_walk, vert_normal_walk, fill_walk, fill_missing, finish_vert, normals_vert, normals_verts}
use Rattle.create_from_normals.specs.Walks.Walks.{normal_walk_directionless, vert_normal_walk_directionless, fill_walk_directionless, fill_missing_directionless, finish_vert_directionless, normals_vert_directionless, normals_verts_directionless}

abbrev pub mesh_of : NormalLists → Halfedges
mesh_of l = as_halfedges l.mesh.h.now

abbrev pub normal_of : NormalLists → ℕ → Vec3
normal_of l = get_normal l.mesh.h.now l.rows.now

-- ---- the loops round a vertex cycle

abbrev pub normal_walk_by : WalkLists → Tangents → ℕ → Walk
normal_walk_by w m e = normal_walk (mesh_of w.lists) w.lists.mesh.pos.now w.lists.mesh.face_normals.now (normal_of w.lists) (is_inside w.inside.now) w.lists.mesh.n m e

abbrev pub vert_normal_walk_by : NormalLists → Vec3 → List Float → ℕ → List Float
vert_normal_walk_by l normal T e = vert_normal_walk (mesh_of l) l.mesh.pos.now l.mesh.face_normals.now l.mesh.n normal T e

abbrev pub fill_walk_by : NormalLists → Vec3 → List Float → ℕ → List Float
fill_walk_by l last T start = fill_walk (mesh_of l) l.mesh.pos.now l.mesh.face_normals.now (normal_of l) l.mesh.n last T start

abbrev pub fill_missing_by : NormalLists → Vec3 → List Float → StartHalfedge → List Float
fill_missing_by l last T start = fill_missing (mesh_of l) l.mesh.pos.now l.mesh.face_normals.now (normal_of l) l.mesh.n last T start

-- ---- a point, and all points

abbrev pub finish_vert_by : NormalLists → Walk → ℕ → ℕ → Tangents
finish_vert_by l m v e = finish_vert (mesh_of l) l.mesh.pos.now l.mesh.normals.now l.mesh.face_normals.now (normal_of l) l.mesh.n m v e

abbrev pub normals_vert_by : WalkLists → Tangents → ℕ → Tangents
normals_vert_by w m v = normals_vert (mesh_of w.lists) w.lists.mesh.pos.now w.lists.mesh.normals.now w.lists.mesh.face_normals.now (normal_of w.lists) (is_inside w.inside.now) w.lists.mesh.n m v

abbrev pub normals_verts_by : WalkLists → Tangents → Tangents
normals_verts_by w m = normals_verts (mesh_of w.lists) w.lists.mesh.pos.now w.lists.mesh.normals.now w.lists.mesh.face_normals.now (normal_of w.lists) (is_inside w.inside.now) w.lists.mesh.n w.lists.mesh.p m

-- ---- what they count

abbrev pub normal_walk_count : WalkLists → Tangents → ℕ → ℕ
normal_walk_count w m e = normal_walk_directionless (mesh_of w.lists) w.lists.mesh.pos.now w.lists.mesh.face_normals.now (normal_of w.lists) (is_inside w.inside.now) w.lists.mesh.n m e

abbrev pub vert_normal_walk_count : NormalLists → Vec3 → List Float → ℕ → ℕ
vert_normal_walk_count l normal T e = vert_normal_walk_directionless (mesh_of l) l.mesh.pos.now l.mesh.face_normals.now l.mesh.n normal T e

abbrev pub fill_walk_count : NormalLists → Vec3 → List Float → ℕ → ℕ
fill_walk_count l last T start = fill_walk_directionless (mesh_of l) l.mesh.pos.now l.mesh.face_normals.now (normal_of l) l.mesh.n last T start

abbrev pub fill_missing_count : NormalLists → Vec3 → List Float → StartHalfedge → ℕ
fill_missing_count l last T start = fill_missing_directionless (mesh_of l) l.mesh.pos.now l.mesh.face_normals.now (normal_of l) l.mesh.n last T start

abbrev pub finish_vert_count : NormalLists → Walk → ℕ → ℕ → ℕ
finish_vert_count l m v e = finish_vert_directionless (mesh_of l) l.mesh.pos.now l.mesh.normals.now l.mesh.face_normals.now (normal_of l) l.mesh.n m v e

abbrev pub normals_vert_count : WalkLists → Tangents → ℕ → ℕ
normals_vert_count w m v = normals_vert_directionless (mesh_of w.lists) w.lists.mesh.pos.now w.lists.mesh.normals.now w.lists.mesh.face_normals.now (normal_of w.lists) (is_inside w.inside.now) w.lists.mesh.n m v

abbrev pub normals_verts_count : WalkLists → Tangents → ℕ
normals_verts_count w m = normals_verts_directionless (mesh_of w.lists) w.lists.mesh.pos.now w.lists.mesh.normals.now w.lists.mesh.face_normals.now (normal_of w.lists) (is_inside w.inside.now) w.lists.mesh.n w.lists.mesh.p m
