-- How a scratch list holds the flat faces at a point. Assumes nothing.
use Prim.Native.Nat.{ℕ, zero, suc, ◌+◌, ◌-◌, ◌*◌, ◌/◌, ◌%◌}
use native.Mathlib.Omega.{arith}
use mathlib.Core.Path.{◌≡◌, refl, ◌∙◌}
use mathlib.Core.List.{List}
use mathlib.Core.Bool.{Bool, true, false, cond}
use lib.IntN.{ℤ}
use lib.Dec.{eqb}
use borrow.Author.Tests.{eq-eqb, ne_eqb}
use Rattle.mesh.specs.Mesh.{same_face}
use Rattle.smoothing.specs.Faces.{add_flat_face}
use Rattle.smoothing.specs.Lent.{face_of}
use Rattle.smoothing.specs.declared.faces.FlatFace.TheVariants.{NoFace, OneFace, MoreFaces}

pub face_none : face_of 0 ≡ NoFace
unfolding face_of
face_none = refl

-- what stands for a flat face
pub face_some : (c : ℕ) → (c ≡ 0 → ⊥) → face_of c ≡ cond (eqb ((c - 1) % 2) 0) (OneFace ((c - 1) / 2)) (MoreFaces ((c - 1) / 2))
unfolding face_of
face_some zero h = absurd (h refl)
face_some (suc c) h = let q : suc c - 1 ≡ c = omega arith in rw q

pub face_one : (t : ℕ) → face_of (t * 2 + 1) ≡ OneFace t
face_one t =
    let a : (t * 2 + 1 - 1) % 2 ≡ 0 = omega arith in
    let b : (t * 2 + 1 - 1) / 2 ≡ t = omega arith in
    face_some (t * 2 + 1) (λ q. omega arith) ∙ simp (eq-eqb _ _ a, b)

pub face_more : (t : ℕ) → face_of (t * 2 + 2) ≡ MoreFaces t
face_more t =
    let a : (t * 2 + 2 - 1) % 2 ≡ 0 → ⊥ = λ q. omega arith in
    let b : (t * 2 + 2 - 1) / 2 ≡ t = omega arith in
    face_some (t * 2 + 2) (λ q. omega arith) ∙ simp (ne_eqb _ _ a, b)

add_some : (R : List ℤ) (b : Bool) (u t : ℕ) → add_flat_face R (cond b (OneFace u) (MoreFaces u)) t ≡ cond (same_face R u t) (cond b (OneFace u) (MoreFaces u)) (MoreFaces t)
unfolding add_flat_face
add_some R true u t = refl
add_some R false u t = refl

-- one more triangle at a point that has a flat face
pub face_again : (R : List ℤ) (c t : ℕ) → (c ≡ 0 → ⊥) → add_flat_face R (face_of c) t ≡ cond (same_face R ((c - 1) / 2) t) (face_of c) (MoreFaces t)
face_again R c t h = rw (face_some c h) (add_some R (eqb ((c - 1) % 2) 0) ((c - 1) / 2) t)
