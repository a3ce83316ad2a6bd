-- Making from normals over the lists of a call: what its definitions say at `NormalLists`. Only contracts of functions inside the making cite these.
use Rattle.std.specs.Prelude.{ℕ, List, Bool, Float}
use Rattle.create_shared.specs.Makings.{Tangents}
use Rattle.create_from_normals.specs.declared.walks.lists.NormalLists.{NormalLists}
use Rattle.create_from_normals.specs.Walks.Lists.{mesh_of, normal_of}
use Rattle.create_from_normals.specs.Whole.Core.{normal_tangents, create_tangents_from_normals, from_normals_directionless}

abbrev pub normal_tangents_by : NormalLists → List Float → Bool → Tangents
normal_tangents_by l T old = normal_tangents (mesh_of l) l.mesh.pos.now l.mesh.normals.now l.mesh.face_normals.now l.mesh.refs.now (normal_of l) T old l.mesh.n l.mesh.p

abbrev pub create_tangents_by : NormalLists → List Float → Bool → List Float
create_tangents_by l T old = create_tangents_from_normals (mesh_of l) l.mesh.pos.now l.mesh.normals.now l.mesh.face_normals.now l.mesh.refs.now (normal_of l) T old l.mesh.n l.mesh.p

abbrev pub from_normals_count : NormalLists → List Float → Bool → ℕ
from_normals_count l T old = from_normals_directionless (mesh_of l) l.mesh.pos.now l.mesh.normals.now l.mesh.face_normals.now l.mesh.refs.now (normal_of l) T old l.mesh.n l.mesh.p
