-- The reading of STL: a tetrahedron with corners 0, x, y and z, and files that are refused.
use Rattle.std.specs.Prelude.{ℕ, ◌≡◌, List, [], ◌∷◌, ◌++◌, map, replicate, ℤ, pos, Float, Ok}
use Rattle.std.specs.Float.{nan}
use Rattle.float.specs.Ops.{lit32}
use Rattle.questions.specs.Check.{refused}
use Rattle.questions.specs.declared.Question.TheVariants.{Lengths, Size, Corners, Pairing}
use Rattle.stl.specs.Questions.{check_stl}
use Rattle.cases.specs.Bytes.{numbers}
use Rattle.stl.specs.Stl.{read_stl, pos_after, h_after, face_normals_after}

-- ---- files

-- 1, -1, -0 and infinity, by their bits
abbrev pub one : ℕ
one = 0x3f80_0000

abbrev pub minus_one : ℕ
minus_one = 0xbf80_0000

abbrev pub minus_zero : ℕ
minus_zero = 0x8000_0000

abbrev pub infinite : ℕ
infinite = 0x7f80_0000

abbrev pub origin : List ℕ
origin = 0 ∷ 0 ∷ 0 ∷ []

abbrev pub x : List ℕ
x = one ∷ 0 ∷ 0 ∷ []

abbrev pub y : List ℕ
y = 0 ∷ one ∷ 0 ∷ []

abbrev pub z : List ℕ
z = 0 ∷ 0 ∷ one ∷ []

-- a normal, three corners, and two bytes that are ignored
abbrev pub triangle : List ℕ → List ℕ → List ℕ → List ℕ → List ℕ
triangle normal a b c = numbers 4 (normal ++ a ++ b ++ c) ++ (7 ∷ 7 ∷ [])

abbrev pub file : ℕ → List ℕ → List ℕ
file count triangles = replicate 80 0 ++ numbers 4 (count ∷ []) ++ triangles

-- the three triangles at x, of which the second has the origin with two numbers of -0
abbrev pub three : List ℕ
three =
    triangle (0 ∷ 0 ∷ minus_one ∷ []) origin y x
    ++ triangle (0 ∷ minus_one ∷ 0 ∷ []) (minus_zero ∷ 0 ∷ minus_zero ∷ []) x z
    ++ triangle (one ∷ one ∷ one ∷ []) x y z

abbrev pub last : List ℕ
last = triangle (minus_one ∷ 0 ∷ 0 ∷ []) origin z y

abbrev pub tetrahedron : List ℕ
tetrahedron = file 4 (three ++ last)

-- ---- the lists that are lent, with exactly the room that is asked for

abbrev pub points : List Float
points = replicate 36 nan

abbrev pub halfedges : List ℤ
halfedges = replicate 48 (pos 77)

abbrev pub normals : List Float
normals = replicate 12 nan

pub record StlHolds : Type 0 where
  -- the tetrahedron is accepted
  pub accepted : read_stl tetrahedron points halfedges normals ≡ Ok (record { halfedges = 12; points = 4 })
  -- four points, by first appearance; the places beyond stay as lent
  pub its_points : pos_after tetrahedron points halfedges normals ≡ map lit32 (origin ++ y ++ x ++ z) ++ replicate 24 nan
  -- start, end, pair and row
  pub its_halfedges : h_after tetrahedron points halfedges normals ≡ map pos (0 ∷ 1 ∷ 11 ∷ 0 ∷ 1 ∷ 2 ∷ 6 ∷ 1 ∷ 2 ∷ 0 ∷ 3 ∷ 2 ∷ 0 ∷ 2 ∷ 2 ∷ 3 ∷ 2 ∷ 3 ∷ 8 ∷ 4 ∷ 3 ∷ 0 ∷ 9 ∷ 5 ∷ 2 ∷ 1 ∷ 1 ∷ 6 ∷ 1 ∷ 3 ∷ 10 ∷ 7 ∷ 3 ∷ 2 ∷ 4 ∷ 8 ∷ 0 ∷ 3 ∷ 5 ∷ 9 ∷ 3 ∷ 1 ∷ 7 ∷ 10 ∷ 1 ∷ 0 ∷ 0 ∷ 11 ∷ [])
  pub its_normals : face_normals_after tetrahedron points halfedges normals ≡ map lit32 (0 ∷ 0 ∷ minus_one ∷ 0 ∷ minus_one ∷ 0 ∷ one ∷ one ∷ one ∷ minus_one ∷ 0 ∷ 0 ∷ [])
  -- one byte more than the count says
  pub longer : check_stl (tetrahedron ++ (0 ∷ [])) 36 48 12 ≡ refused Size 0
  -- cut off in its header
  pub cut : check_stl (replicate 79 0) 36 48 12 ≡ refused Size 0
  -- one place too few for normals
  pub no_room : check_stl tetrahedron 36 48 11 ≡ refused Lengths 0
  -- the last triangle has a corner that is not finite
  pub not_finite : check_stl (file 4 (three ++ triangle origin origin (infinite ∷ 0 ∷ 0 ∷ []) y)) 36 48 12 ≡ refused Corners 3
  -- and here two equal corners, of which one is written with -0
  pub flat : check_stl (file 4 (three ++ triangle origin origin (0 ∷ 0 ∷ minus_zero ∷ []) y)) 36 48 12 ≡ refused Corners 3
  -- the last triangle is missing: halfedge 0, from the origin to y, has no reverse
  pub torn : check_stl (file 3 three) 36 48 12 ≡ refused Pairing 0
  -- the last triangle is there twice: so are its directed edges, of which the lowest halfedge is 9
  pub twice : check_stl (file 5 (three ++ last ++ last)) 45 60 15 ≡ refused Pairing 9
  -- no triangles are a mesh without halfedges
  pub empty : read_stl (file 0 []) [] [] [] ≡ Ok (record { halfedges = 0; points = 0 })
