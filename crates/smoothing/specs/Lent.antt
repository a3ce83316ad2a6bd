-- What the lent lists must be for a call, and how scratch lists hold the flags of the triangles and the flat faces at each point. Only contracts inside a call name these. H are the halfedges, R the face references.
use Rattle.std.specs.Prelude.{ℕ, zero, suc, ◌-◌, ◌/◌, ◌%◌, ◌<◌, ◌≡◌, List, ◌++◌, cond, replicate, ℤ, eqb}
use Rattle.mesh.specs.Mesh.{start_vert, paired_halfedge, Halfedges}
use Rattle.mesh.specs.Inside.{Inside}
use Rattle.smoothing.specs.Faces.{flat_faces}
use Rattle.smoothing.specs.declared.faces.FlatFace.{FlatFace}
use Rattle.smoothing.specs.declared.faces.FlatFace.TheVariants.{NoFace, OneFace, MoreFaces}

-- ---- lengths and numbers: `flat_in` and `verts_in` of `proofs/Lent.antt` give them on an accepted mesh

-- A list of m places has one for each halfedge. Of such a list `flat_faces` uses the first m / 3 places, one for each triangle.
pub record FlatIn (H : Halfedges) (m : ℕ) : Type 0 where
  pub triangles : m % 3 ≡ 0
  pub paired_in : (e : ℕ) → e < m → paired_halfedge H e < m
  pub inside : (e : ℕ) → e < m → Inside H e

-- a list of p places has one for each point of the n halfedges
pub record VertsIn (H : Halfedges) (n p : ℕ) : Type 0 where
  pub start_in : (e : ℕ) → e < n → start_vert H e < p
  pub inside : (e : ℕ) → e < n → Inside H e

-- ---- the flat faces at a point as a number: 0, t * 2 + 1, t * 2 + 2

unfoldable pub face_of : ℕ → FlatFace
face_of zero = NoFace
face_of (suc c) = cond (eqb (c % 2) 0) (OneFace (c / 2)) (MoreFaces (c / 2))

-- ---- the flags of the triangles in a list with a place for each of n halfedges: in front, and zeros behind

unfoldable pub flat_flags : Halfedges → List ℤ → ℕ → List ℕ
flat_flags H R n = flat_faces H R n ++ replicate (n - n / 3) 0
