-- The mesh as flat lists: the halfedges (start, end, pair and row of each), three after each other a triangle, and the face references (mesh, coplanar and face number of each triangle).
use Rattle.std.specs.Prelude.{ℕ, ◌+◌, ◌*◌, ◌-◌, ◌%◌, List, Bool, false, cond, ◌&&◌, length, get_or, ℤ, pos, negsuc, eqb, ltb}
use Rattle.mesh.specs.declared.TheConstants.{MAX_HALFEDGES, MAX_POINTS, HALFEDGE_STRIDE, REF_STRIDE, NO_INDEX}

-- the limits of question 1, and below the other numbers that the code's constants have: each stands in src/lib.rt alone
abbrev pub max_halfedges : ℕ
max_halfedges = MAX_HALFEDGES

abbrev pub max_points : ℕ
max_points = MAX_POINTS

-- how many numbers a halfedge has in its list, and a face reference in its
abbrev pub halfedge_stride : ℕ
halfedge_stride = HALFEDGE_STRIDE

abbrev pub ref_stride : ℕ
ref_stride = REF_STRIDE

-- number k of item e, in a list of `stride` numbers to an item; 0 past the end
unfoldable pub number_at : List ℤ → ℕ → ℕ → ℕ → ℤ
number_at list e stride k = get_or list (e * stride + k) (pos 0)

-- what a negative number is read as: above every i32 and every count of question 1
abbrev pub no_index : ℕ
no_index = NO_INDEX

-- an i32 as the number of a point, a halfedge or a row
unfoldable pub index_of : ℤ → ℕ
index_of (pos n) = n
index_of (negsuc n) = no_index

-- number k of halfedge e of a list, as an index
unfoldable pub field : List ℤ → ℕ → ℕ → ℕ
field list e k = index_of (number_at list e halfedge_stride k)

-- The halfedges of a list as all calls read them: how many numbers the list has, and start, end and pair of halfedge e. Letter H in all definitions.
pub record Halfedges : Type 0 where
  pub numbers : ℕ
  pub start : ℕ → ℕ
  pub end : ℕ → ℕ
  pub pair : ℕ → ℕ

unfoldable pub as_halfedges : List ℤ → Halfedges
as_halfedges list = record { numbers = length list; start = λ e. field list e 0; end = λ e. field list e 1; pair = λ e. field list e 2 }

-- `start_vert`, `end_vert` and `paired_halfedge` of halfedge e
abbrev pub start_vert : Halfedges → ℕ → ℕ
start_vert H e = H.start e

abbrev pub end_vert : Halfedges → ℕ → ℕ
end_vert H e = H.end e

abbrev pub paired_halfedge : Halfedges → ℕ → ℕ
paired_halfedge H e = H.pair e

-- `prop_vert` of halfedge e: the row of its normal. Only making from normals reads it.
abbrev pub prop_vert : List ℤ → ℕ → ℕ
prop_vert list e = field list e 3

-- `is_forward`: `start_vert < end_vert`. On an accepted mesh none is negative (question 3), so that the numbers stand in the order of the indices.
abbrev pub is_forward : Halfedges → ℕ → Bool
is_forward H e = ltb (start_vert H e) (end_vert H e)

-- `next_halfedge` and `prev_halfedge`, within the triangle
unfoldable pub next_halfedge : ℕ → ℕ
next_halfedge e = cond (eqb ((e + 1) % 3) 0) (e + 1 - 3) (e + 1)

unfoldable pub prev_halfedge : ℕ → ℕ
prev_halfedge e = e - e % 3 + (e % 3 + 2) % 3

-- `==` of two i32
unfoldable pub eq_z : ℤ → ℤ → Bool
eq_z (pos a) (pos b) = eqb a b
eq_z (pos a) (negsuc b) = false
eq_z (negsuc a) (pos b) = false
eq_z (negsuc a) (negsuc b) = eqb a b

-- number k of the face reference of triangle t: `mesh_id`, `coplanar_id`, `face_id`
abbrev pub ref_at : List ℤ → ℕ → ℕ → ℤ
ref_at R t k = number_at R t ref_stride k

-- `same_face` of the triangles a and b
unfoldable pub same_face : List ℤ → ℕ → ℕ → Bool
same_face R a b = eq_z (ref_at R a 0) (ref_at R b 0) && eq_z (ref_at R a 1) (ref_at R b 1) && eq_z (ref_at R a 2) (ref_at R b 2)
