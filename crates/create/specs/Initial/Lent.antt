-- What the definitions say at the lists of a call, `MeshLists` and `FaceLists`. Only contracts inside a call name these.
use Rattle.std.specs.Prelude.{ℕ, List, Bool, false, cond, ◌&&◌, Float}
use Rattle.linalg.specs.declared.Vec3.{Vec3}
use Rattle.linalg.specs.declared.Vec4.{Vec4}
use Rattle.mesh.specs.Mesh.{as_halfedges, start_vert, paired_halfedge, is_forward}
use Rattle.smoothing.specs.declared.CircularTangent.{CircularTangent}
use Rattle.smoothing.specs.declared.TwoTangents.{TwoTangents}
use Rattle.smoothing.specs.Edges.{is_inside_quad}
use Rattle.create_shared.specs.declared.mesh_lists.MeshLists.{MeshLists}
use Rattle.create.specs.declared.initial.face_lists.FaceLists.{FaceLists}
use Rattle.create.specs.Initial.Faces.{face_at}
use Rattle.create.specs.Initial.First.{vert_normal, first_tangent, put_first_tangent, first_directionless, firsts_directionless}

-- the normal of the start point of halfedge e
abbrev pub normal_at : FaceLists → ℕ → Vec3
normal_at l e =
    let v = start_vert (as_halfedges l.mesh.h.now) e in
    vert_normal l.mesh.normals.now l.mesh.face_normals.now v (face_at l.at.now v)

-- ---- where T are the old tangents

abbrev pub inside_quad : MeshLists → List Float → Bool → ℕ → Bool
inside_quad mesh T old = is_inside_quad (as_halfedges mesh.h.now) mesh.refs.now T old

-- the first tangent of halfedge e
abbrev pub first_at : FaceLists → List Float → Bool → ℕ → Vec4
first_at l T old e =
    let mesh = l.mesh in
    let H = as_halfedges mesh.h.now in
    first_tangent H mesh.pos.now mesh.normals.now mesh.face_normals.now (inside_quad mesh T old) (face_at l.at.now (start_vert H e)) e

-- is it a circular tangent on an edge without direction?
abbrev pub counts_first : MeshLists → List Float → Bool → ℕ → Bool
counts_first mesh T old e = first_directionless (as_halfedges mesh.h.now) mesh.pos.now (inside_quad mesh T old) e

-- both
abbrev pub first_made : FaceLists → List Float → Bool → ℕ → CircularTangent
first_made l T old e = record { tangent = first_at l T old e; directionless = counts_first l.mesh T old e }

-- the body of the loop
abbrev pub put_first : FaceLists → List Float → Bool → List Float → ℕ → List Float
put_first l T old =
    let mesh = l.mesh in
    put_first_tangent (as_halfedges mesh.h.now) mesh.pos.now mesh.normals.now mesh.face_normals.now (inside_quad mesh T old) (face_at l.at.now)

-- how many of all count
abbrev pub count_firsts : MeshLists → List Float → Bool → ℕ
count_firsts mesh T old = firsts_directionless (as_halfedges mesh.h.now) mesh.pos.now (inside_quad mesh T old) mesh.n

-- the first tangents of halfedge e and of its pair, where there are no old tangents; and whether they are such circular tangents, both or neither
unfoldable pub edge_tangents : FaceLists → List Float → ℕ → TwoTangents
edge_tangents l T e = record {
  here = first_at l T false e;
  there = first_at l T false (paired_halfedge (as_halfedges l.mesh.h.now) e);
  directionless = counts_first l.mesh T false e;
}

-- what halfedge e counts where both tangents of an edge are written at its forward halfedge
unfoldable pub edge_directionless : MeshLists → List Float → ℕ → ℕ
edge_directionless mesh T e = cond (is_forward (as_halfedges mesh.h.now) e && counts_first mesh T false e) 2 0
