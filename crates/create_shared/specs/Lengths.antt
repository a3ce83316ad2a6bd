-- Question 2 of the lists that both makings read.
use Rattle.std.specs.Prelude.{ℕ, ◌/◌, Bool, ◌&&◌}
use Rattle.mesh.specs.Mesh.{ref_stride}
use Rattle.questions.specs.Questions.{has_length, points_fit}

-- what the lengths of the halfedges, the positions, the point normals, the face normals and the face references must be
abbrev pub mesh_lists_fit : ℕ → ℕ → ℕ → ℕ → ℕ → ℕ → ℕ → Bool
mesh_lists_fit halfedges positions normals face_normals refs n p =
    points_fit halfedges positions normals n p && has_length face_normals (n / 3) 3 && has_length refs (n / 3) ref_stride
