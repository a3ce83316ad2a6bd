-- Flat faces: `flat_faces` and `vert_flat_face` of src/smoothing.rs. H are the halfedges, R the face references, `flat` says of a triangle whether it lies in a flat face.
use Rattle.std.specs.Prelude.{ℕ, ◌+◌, ◌*◌, ◌/◌, List, Bool, cond, ◌&&◌, get_or, set, replicate, ℤ, eqb, ltb}
use Rattle.mesh.specs.Mesh.{start_vert, paired_halfedge, same_face, Halfedges}
use Rattle.common.specs.Fold.{fold_to}
use Rattle.smoothing.specs.declared.faces.FlatFace.{FlatFace}
use Rattle.smoothing.specs.declared.faces.FlatFace.TheVariants.{NoFace, OneFace, MoreFaces}

-- ---- `flat_faces`: a 1 for each triangle with more than one neighbor of its own face, and for these neighbors

-- `neighbor_tri`: the triangle across edge j of triangle t
abbrev pub neighbor_tri : Halfedges → ℕ → ℕ → ℕ
neighbor_tri H t j = paired_halfedge H (t * 3 + j) / 3

unfoldable pub is_face_neighbor : Halfedges → List ℤ → ℕ → ℕ → Bool
is_face_neighbor H R t j = same_face R (neighbor_tri H t j) t

-- `face_neighbors`
unfoldable pub face_neighbors : Halfedges → List ℤ → ℕ → ℕ
face_neighbors H R t =
    cond (is_face_neighbor H R t 0) 1 0 + cond (is_face_neighbor H R t 1) 1 0 + cond (is_face_neighbor H R t 2) 1 0

-- `tri_is_flat_face[face_tris[j]] = true`
unfoldable pub mark_neighbor : Halfedges → List ℤ → ℕ → List ℕ → ℕ → List ℕ
mark_neighbor H R t F j = cond (is_face_neighbor H R t j) (set F (neighbor_tri H t j) 1) F

-- the body of the loop, at triangle t
unfoldable pub mark_flat : Halfedges → List ℤ → List ℕ → ℕ → List ℕ
mark_flat H R F t = cond (ltb 1 (face_neighbors H R t)) (fold_to (mark_neighbor H R t) (set F t 1) 3) F

-- `tri_is_flat_face`: a flag for each of the n / 3 triangles
unfoldable pub flat_faces : Halfedges → List ℤ → ℕ → List ℕ
flat_faces H R n = fold_to (mark_flat H R) (replicate (n / 3) 0) (n / 3)

-- `tri_is_flat_face[t]`
abbrev pub is_flat : List ℕ → ℕ → Bool
is_flat F t = eqb (get_or F t 0) 1

-- ---- `vert_flat_face`: the flat faces at point v

-- Another triangle t of a flat face at the point. The triangle in a FlatFace stands for `vert_ref`, whose default agrees with no triangle (question 8).
unfoldable pub add_flat_face : List ℤ → FlatFace → ℕ → FlatFace
add_flat_face R NoFace t = OneFace t
add_flat_face R (OneFace u) t = cond (same_face R u t) (OneFace u) (MoreFaces t)
add_flat_face R (MoreFaces u) t = cond (same_face R u t) (MoreFaces u) (MoreFaces t)

-- the body of the loop, at halfedge e
unfoldable pub vert_face_at : Halfedges → List ℤ → (ℕ → Bool) → ℕ → FlatFace → ℕ → FlatFace
vert_face_at H R flat v f e = cond (flat (e / 3) && eqb (start_vert H e) v) (add_flat_face R f (e / 3)) f

unfoldable pub vert_flat_face : Halfedges → List ℤ → (ℕ → Bool) → ℕ → ℕ → FlatFace
vert_flat_face H R flat n v = fold_to (vert_face_at H R flat v) NoFace n
