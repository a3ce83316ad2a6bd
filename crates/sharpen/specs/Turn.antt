-- What the loop of a listing goes by. Only contracts inside the call name these. I and Q are the two lists that are written.
use Rattle.std.specs.Prelude.{ℕ, ◌+◌, ◌≤◌, ◌<◌, ◌≡◌, List, Bool, true, length, Float}
use Rattle.mesh.specs.Mesh.{as_halfedges}
use Rattle.sharpen.specs.Crease.{edge_kind, is_listed}
use Rattle.sharpen.specs.declared.edge.EdgeKind.{EdgeKind}
use Rattle.sharpen.specs.declared.edge.Rule.{Rule}
use Rattle.sharpen.specs.declared.crease_lists.CreaseLists.{CreaseLists}

-- what the edge of halfedge e is
abbrev pub kind_of : CreaseLists → ℕ → EdgeKind
kind_of lists e = edge_kind (as_halfedges lists.h.now) lists.face_normals.now lists.limit e

-- is it listed by the rule?
abbrev pub listed_by : Rule → CreaseLists → ℕ → Bool
listed_by rule lists = is_listed rule (as_halfedges lists.h.now) lists.face_normals.now lists.limit

-- what one turn of the loop needs at halfedge e, after k entries: room for two entries more where its edge is listed
pub record EdgeFits (lists : CreaseLists) (e k : ℕ) (I : List ℕ) (Q : List Float) : Type 0 where
  pub below : e < lists.n
  pub entries : listed_by lists.rule lists e ≡ true → k + 2 ≤ length I
  pub smoothness : listed_by lists.rule lists e ≡ true → k + 2 ≤ length Q
