-- The questions: the number of each, and the tests of 1 to 12. Questions 1 and 2 are put once; each other has a test for one place.
use Rattle.std.specs.Prelude.{ℕ, ◌*◌, ◌%◌, List, Bool, false, not, ◌&&◌, get_or, ℤ, pos, eqb, leb, ltb, Float}
use Rattle.std.specs.Int.Signed.{le_z}
use Rattle.std.specs.Float.{nan, inf, fin}
use Rattle.mesh.specs.Mesh.{max_halfedges, max_points, halfedge_stride, no_index, start_vert, end_vert, paired_halfedge, prop_vert, next_halfedge, ref_at, Halfedges}
use Rattle.questions.specs.declared.Question.{Question}
use Rattle.questions.specs.declared.Question.TheVariants.{Counts, Lengths, Points, Pair, Mutual, Opposite, Joined, Mesh, Entry, Sign, Flag, Row, MovedPoint, Fits, Kind, Body, Operation, End, WideCounts, OutputRoom, Size, Corners, Pairing, Parameter, CurveCount, CurveRoom, Planes, Profile, Jobs, JobLimit, JobTurned, Own}

-- the number of each question; one of a caller's own carries its number
abbrev pub number : Question → ℕ
number Counts = 1
number Lengths = 2
number Points = 3
number Pair = 4
number Mutual = 5
number Opposite = 6
number Joined = 7
number Mesh = 8
number Entry = 9
number Sign = 10
number Flag = 11
number Row = 12
number MovedPoint = 13
number Fits = 20
number Kind = 21
number Body = 22
number Operation = 23
number End = 24
number WideCounts = 25
number OutputRoom = 26
number Size = 30
number Corners = 31
number Pairing = 32
number Parameter = 40
number CurveCount = 41
number CurveRoom = 42
number Planes = 50
number Profile = 60
number Jobs = 80
number JobLimit = 81
number JobTurned = 82
number (Own k) = k

-- 1: is the halfedge count a multiple of 3 and at most its limit, and the point count at most its own?
abbrev pub counts_fit : ℕ → ℕ → Bool
counts_fit n p = eqb (n % 3) 0 && leb n max_halfedges && leb p max_points

-- 2: has a list its length, `per` numbers for each of `count`? A call asks this of each list that it is lent.
abbrev pub has_length : ℕ → ℕ → ℕ → Bool
has_length len count per = eqb len (count * per)

-- 2, of the halfedges and the positions, which each call over a mesh in space is lent
abbrev pub mesh_fits : ℕ → ℕ → ℕ → ℕ → Bool
mesh_fits halfedges positions n p = has_length halfedges n halfedge_stride && has_length positions p 3

-- 2, of these and the point normals, which spreading, its preview and both makings are lent
abbrev pub points_fit : ℕ → ℕ → ℕ → ℕ → ℕ → Bool
points_fit halfedges positions normals n p = mesh_fits halfedges positions n p && has_length normals p 3

-- 3: are start and end numbers of points?
abbrev pub has_points : Halfedges → ℕ → ℕ → Bool
has_points H p e = ltb (start_vert H e) p && ltb (end_vert H e) p

-- 4: is the pair a number of a halfedge?
abbrev pub has_pair : Halfedges → ℕ → ℕ → Bool
has_pair H n e = ltb (paired_halfedge H e) n

-- 5: does the pair name this halfedge back?
abbrev pub is_mutual : Halfedges → ℕ → Bool
is_mutual H e = eqb (paired_halfedge H (paired_halfedge H e)) e

-- 6: do start and end differ, and does the pair run between them the other way?
abbrev pub is_opposite : Halfedges → ℕ → Bool
is_opposite H e =
    not (eqb (start_vert H e) (end_vert H e)) && eqb (start_vert H (paired_halfedge H e)) (end_vert H e)
    && eqb (end_vert H (paired_halfedge H e)) (start_vert H e)

-- 7: does the next halfedge of the triangle start where this one ends?
abbrev pub is_joined : Halfedges → ℕ → Bool
is_joined H e = eqb (start_vert H (next_halfedge e)) (end_vert H e)

-- 8: is the triangle's mesh number at least 1?
abbrev pub has_mesh : List ℤ → ℕ → Bool
has_mesh R t = le_z (pos 1) (ref_at R t 0)

-- 9: does entry k name a halfedge?
abbrev pub names_halfedge : List ℕ → ℕ → ℕ → Bool
names_halfedge I n k = ltb (get_or I k 0) n

-- 10: is the smoothness of entry k a number with a clear sign bit?
unfoldable pub sign_clear : Float → Bool
sign_clear nan = false
sign_clear (inf s) = not s
sign_clear (fin s m e) = not s

abbrev pub has_clear_sign : List Float → ℕ → Bool
has_clear_sign Q k = sign_clear (get_or Q k nan)

-- 11: is the flag 0 or 1?
abbrev pub is_flag : List ℕ → ℕ → Bool
is_flag X e = leb (get_or X e 0) 1

-- 12: is the row of halfedge e a number of one of so many rows? A negative one is none, however many there are.
abbrev pub has_row : List ℤ → ℕ → ℕ → Bool
has_row list rows e = ltb (prop_vert list e) no_index && ltb (prop_vert list e) rows
