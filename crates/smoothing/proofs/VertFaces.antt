-- The triangle of a point's one flat face is there.
use Prim.Native.Nat.{ℕ, ◌+◌, ◌*◌, ◌/◌, ◌%◌, ◌≤◌}
use native.Mathlib.Omega.{arith}
use mathlib.Core.Path.{◌≡◌}
use mathlib.Core.List.{List}
use mathlib.Core.Bool.{Bool, true, false, cond, ◌&&◌}
use lib.IntN.{ℤ}
use lib.Dec.{eqb}
use Rattle.mesh.specs.Mesh.{start_vert, same_face, Halfedges}
use Rattle.common.proofs.Fold.{fold_keeps}
use Rattle.smoothing.specs.Faces.{add_flat_face, vert_face_at, vert_flat_face}
use Rattle.smoothing.specs.declared.faces.FlatFace.{FlatFace}
use Rattle.smoothing.specs.declared.faces.FlatFace.TheVariants.{NoFace, OneFace, MoreFaces}

abbrev In : ℕ → FlatFace → Type 0
In n f = (t : ℕ) → f ≡ OneFace t → t * 3 + 3 ≤ n

in_cond : (n : ℕ) (b : Bool) (f g : FlatFace) → In n f → In n g → In n (cond b f g)
in_cond n true f g p q = p
in_cond n false f g p q = q

more_in : (n u : ℕ) → In n (MoreFaces u)
more_in n u t e = let z : ◌≡◌ {A = ℕ} 0 1 = cc in absurd (omega arith)

in_add : (R : List ℤ) (n : ℕ) (f : FlatFace) (t : ℕ) → t * 3 + 3 ≤ n → In n f → In n (add_flat_face R f t)
unfolding add_flat_face
in_add R n NoFace t l p = λ u e. let q : t ≡ u = cc in omega arith
in_add R n (OneFace w) t l p = in_cond n (same_face R w t) (OneFace w) (MoreFaces t) p (more_in n t)
in_add R n (MoreFaces w) t l p = in_cond n (same_face R w t) (MoreFaces w) (MoreFaces t) (more_in n w) (more_in n t)

pub vert_face_in : (H : Halfedges) (R : List ℤ) (flat : ℕ → Bool) (n v t : ℕ) → n % 3 ≡ 0 → vert_flat_face H R flat n v ≡ OneFace t → t * 3 + 3 ≤ n
unfolding vert_flat_face vert_face_at
vert_face_in H R flat n v t m =
    fold_keeps (vert_face_at H R flat v) NoFace (In n) n
    (λ f e l p. in_cond n (flat (e / 3) && eqb (start_vert H e) v) (add_flat_face R f (e / 3)) f (in_add R n f (e / 3) (omega arith) p) p)
    (λ u e. let z : ◌≡◌ {A = ℕ} 0 1 = cc in absurd (omega arith))
    n
    (omega arith)
    t
