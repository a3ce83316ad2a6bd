-- The reading of binary STL as a public call: its answer, and the lists after it. s are the file's bytes, P, L and A the lists that are lent for positions, halfedges and face normals.
use Rattle.std.specs.Prelude.{ℕ, ◌*◌, ◌/◌, ◌≡◌, List, ◌&&◌, length, take, ℤ, Float, Result, Ok, Err, ⊤}
use Rattle.mesh.specs.Mesh.{halfedge_stride, as_halfedges}
use Rattle.questions.specs.Questions.{has_length}
use Rattle.questions.specs.Check.{Checked, number_of, place_of, value_or, answer_of, when_accepted, check_mesh, check_rows}
use Rattle.questions.specs.declared.Refusal.{Refusal}
use Rattle.little_endian.specs.Filled.{filled}
use Rattle.stl.specs.File.File.{triangle_count, halfedge_count, normal_item}
use Rattle.stl.specs.File.Points.{point_count}
use Rattle.stl.specs.File.Lists.{point_item, halfedge_item}
use Rattle.stl.specs.Questions.{check_stl}
use Rattle.stl.specs.declared.MeshCounts.{MeshCounts}

-- ---- the answer

-- the two counts, or the refusal
abbrev pub Reading : Type 0
Reading = Result MeshCounts Refusal

-- each count; 0 for a refusal, which reads nothing
abbrev pub halfedges_of : Reading → ℕ
halfedges_of = value_or 0 (λ (counts : MeshCounts). counts.halfedges)

abbrev pub points_of : Reading → ℕ
points_of = value_or 0 (λ (counts : MeshCounts). counts.points)

-- the counts of a file
abbrev pub counts_of : List ℕ → MeshCounts
counts_of s = record { halfedges = halfedge_count s; points = point_count s }

-- the questions, of the lent lists
abbrev pub check_lists : List ℕ → List Float → List ℤ → List Float → Checked
check_lists s P L A = check_stl s (length P) (length L) (length A)

-- the answer of `read_stl`
abbrev pub read_stl : List ℕ → List Float → List ℤ → List Float → Reading
read_stl s P L A = answer_of (check_lists s P L A) (counts_of s)

-- ---- the lists after it: their first places are filled, and further places stay; all stay where it refuses

abbrev pub pos_after : List ℕ → List Float → List ℤ → List Float → List Float
pos_after s P L A = when_accepted (check_lists s P L A) (filled (point_item s) (3 * point_count s) P) P

abbrev pub h_after : List ℕ → List Float → List ℤ → List Float → List ℤ
h_after s P L A = when_accepted (check_lists s P L A) (filled (halfedge_item s) (halfedge_count s * halfedge_stride) L) L

abbrev pub face_normals_after : List ℕ → List Float → List ℤ → List Float → List Float
face_normals_after s P L A = when_accepted (check_lists s P L A) (filled (normal_item s) (3 * triangle_count s) A) A

-- ---- what follows

-- what the definitions give of an answer `r` to a file, after the answer `checked` of the questions: number, place and both counts
pub record Values (checked : Checked) (s : List ℕ) (r : Reading) : Type 0 where
  pub number : number_of r ≡ number_of checked
  pub place : place_of r ≡ place_of checked
  pub halfedges : halfedges_of r ≡ when_accepted checked (halfedge_count s) 0
  pub points : points_of r ≡ when_accepted checked (point_count s) 0

-- An accepted result is a mesh: as many places of each list as its counts say pass the questions 1 to 7, and 12 with one row for each halfedge. P, L and A are the lists after the call.
abbrev pub IsMesh : Reading → List Float → List ℤ → List Float → Type 0
IsMesh (Ok counts) P L A =
    let n = counts.halfedges in
    let p = counts.points in
    let positions = take (p * 3) P in
    let halfedges = take (n * halfedge_stride) L in
    let face_normals = take n A in
    (check_mesh (as_halfedges halfedges) n p (has_length (length positions) p 3 && has_length (length halfedges) n halfedge_stride && has_length (length face_normals) (n / 3) 3) ≡ Ok tt)
    × (check_rows (Ok tt) halfedges n n ≡ Ok tt)
IsMesh (Err refusal) P L A = ⊤
