-- The questions that are put to a binary STL file and to the lists lent for it, 30, 2, 31, 30 for the points, and 32. s are the file's bytes.
use Rattle.std.specs.Prelude.{ℕ, ◌+◌, ◌*◌, ◌%◌, List, Bool, not, ◌&&◌, leb, ltb}
use Rattle.mesh.specs.Mesh.{max_points}
use Rattle.questions.specs.Check.{Checked, asked, each, ◌then◌}
use Rattle.questions.specs.declared.Question.TheVariants.{Lengths, Size, Corners, Pairing}
use Rattle.stl.specs.File.File.{triangle_count, halfedge_count, length_fits, corner_at}
use Rattle.stl.specs.File.Points.{same_point, point_count}
use Rattle.stl.specs.File.Edges.{is_paired}
use Rattle.stl.specs.declared.file.Corner.{Corner}

-- 2: have the lists, of these lengths, room for three points, three halfedges and one normal for each triangle?
abbrev pub has_room : List ℕ → ℕ → ℕ → ℕ → Bool
has_room s pos_len h_len face_normals_len =
    leb (9 * triangle_count s) pos_len && leb (12 * triangle_count s) h_len && leb (3 * triangle_count s) face_normals_len

-- 31: are the corners of triangle t finite, and no two of them equal?
unfoldable pub finite : ℕ → Bool
finite bits = ltb (bits % 0x8000_0000) 0x7f80_0000

abbrev pub finite_corner : Corner → Bool
finite_corner a = finite a.x && finite a.y && finite a.z

unfoldable pub triangle_fits : List ℕ → ℕ → Bool
triangle_fits s t =
    (finite_corner (corner_at s (3 * t)) && finite_corner (corner_at s (3 * t + 1)) && finite_corner (corner_at s (3 * t + 2)))
    && (not (same_point s (3 * t) (3 * t + 1)) && not (same_point s (3 * t + 1) (3 * t + 2)) && not (same_point s (3 * t + 2) (3 * t)))

-- asked in this order, after the first half of 30; `room` is the answer to question 2
unfoldable pub check_file : List ℕ → Bool → Checked
check_file s room =
    asked Lengths 0 room
    then each Corners (triangle_fits s) (triangle_count s)
    then asked Size 0 (leb (point_count s) max_points)
    then each Pairing (is_paired s) (halfedge_count s)

-- all questions, of lists of these lengths
abbrev pub check_stl : List ℕ → ℕ → ℕ → ℕ → Checked
check_stl s pos_len h_len face_normals_len = asked Size 0 (length_fits s) then check_file s (has_room s pos_len h_len face_normals_len)
