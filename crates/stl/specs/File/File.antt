-- A binary STL file, little-endian: 80 bytes of header, a u32 count of triangles, and for each triangle 50 bytes: normal and three corners as twelve f32 numbers, then two bytes that are ignored. s are its bytes; a byte past the end reads as 0.
use Rattle.std.specs.Prelude.{ℕ, ◌+◌, ◌*◌, ◌/◌, ◌%◌, List, Bool, cond, ◌&&◌, length, eqb, leb, Float}
use Rattle.float.specs.Ops.{lit32}
use Rattle.mesh.specs.Mesh.{max_halfedges}
use Rattle.little_endian.specs.Numbers.{u32_at}
use Rattle.stl.specs.declared.file.Corner.{Corner}
use Rattle.stl.specs.declared.file.Triangle.{Triangle}

unfoldable pub triangle_count : List ℕ → ℕ
triangle_count s = u32_at s 80

-- its corners, which are its halfedges: halfedge e starts at corner e
abbrev pub halfedge_count : List ℕ → ℕ
halfedge_count s = 3 * triangle_count s

-- the first half of question 30: is the length 84 plus 50 times the count, and three times the count within the limit of question 1?
abbrev pub length_fits : List ℕ → Bool
length_fits s = eqb (length s) (84 + 50 * triangle_count s) && leb (halfedge_count s) max_halfedges

-- -0 is taken as 0
unfoldable pub clean : ℕ → ℕ
clean bits = cond (eqb bits 0x8000_0000) 0 bits

-- where corner c % 3 of triangle c / 3 begins
unfoldable pub corner_offset : ℕ → ℕ
corner_offset c = 84 + 12 + 50 * (c / 3) + 12 * (c % 3)

-- the bits of its three numbers
unfoldable pub corner_at : List ℕ → ℕ → Corner
corner_at s c =
    let at = corner_offset c in
    record { x = clean (u32_at s at); y = clean (u32_at s (at + 4)); z = clean (u32_at s (at + 8)) }

-- the three corners of triangle t
unfoldable pub triangle_at : List ℕ → ℕ → Triangle
triangle_at s t = record { a = corner_at s (3 * t); b = corner_at s (3 * t + 1); c = corner_at s (3 * t + 2) }

-- number i % 3 of the normal of triangle i / 3, widened. Every bit pattern of an f32 is read; those of not-a-number are the one `nan`.
unfoldable pub normal_item : List ℕ → ℕ → Float
normal_item s i = lit32 (u32_at s (84 + 50 * (i / 3) + 4 * (i % 3)))
