-- The flags of `flat_faces` in a list with a place for each of the n halfedges: those of the n / 3 triangles, then zeros. Assumes nothing.
use Prim.Native.Nat.{ℕ, zero, suc, ◌+◌, ◌*◌, ◌/◌, ◌-◌, ◌<◌, ◌≤◌}
use native.Mathlib.Omega.{arith}
use mathlib.Core.Path.{◌≡◌, refl, sym, ap, ◌∙◌, fun_ext}
use mathlib.Core.List.{List, [], ◌∷◌, ◌++◌}
use mathlib.Core.Bool.{Bool, true, false, cond}
use lib.ListN.{length, get_or, set, replicate, length-set, length-replicate, replicate-append-replicate}
use lib.Seq.{set-append_left}
use lib.IntN.{ℤ}
use lib.Dec.{eqb, ltb}
use Rattle.common.specs.Fold.{fold_to}
use Rattle.common.proofs.Fold.{fold_keeps}
use Rattle.mesh.specs.Mesh.{Halfedges}
use Rattle.smoothing.specs.Faces.{neighbor_tri, is_face_neighbor, face_neighbors, mark_neighbor, mark_flat, flat_faces, is_flat}
use Rattle.smoothing.specs.Lent.{FlatIn, flat_flags}

-- ---- `flat_faces` has a place for each triangle

length_cond : (b : Bool) (F G : List ℕ) (m : ℕ) → length F ≡ m → length G ≡ m → length (cond b F G) ≡ m
length_cond true F G m p q = p
length_cond false F G m p q = q

module _ (H : Halfedges) (R : List ℤ) (m : ℕ) where
  length_neighbor : (t : ℕ) (F : List ℕ) (j : ℕ) → length F ≡ m → length (mark_neighbor H R t F j) ≡ m
  unfolding mark_neighbor
  length_neighbor t F j p = length_cond (is_face_neighbor H R t j) (set F (neighbor_tri H t j) 1) F m (length-set F (neighbor_tri H t j) 1 ∙ p) p

  length_mark : (F : List ℕ) (t : ℕ) → length F ≡ m → length (mark_flat H R F t) ≡ m
  unfolding mark_flat
  length_mark F t p =
      length_cond (ltb 1 (face_neighbors H R t)) (fold_to (mark_neighbor H R t) (set F t 1) 3) F m
      (fold_keeps (mark_neighbor H R t) (set F t 1) (λ (G : List ℕ). length G ≡ m) 3 (λ G j l q. length_neighbor t G j q) (length-set F t 1 ∙ p) 3 (omega arith))
      p

pub length_flat_faces : (H : Halfedges) (R : List ℤ) (n : ℕ) → length (flat_faces H R n) ≡ n / 3
unfolding flat_faces
length_flat_faces H R n =
    fold_keeps (mark_flat H R) (replicate (n / 3) 0) (λ (G : List ℕ). length G ≡ n / 3) (n / 3) (λ G t l q. length_mark H R (n / 3) G t q) (length-replicate (n / 3) 0) (n / 3) (omega arith)

-- ---- zeros after the flags are read as no flag

zero_at : (k t : ℕ) → ◌≡◌ {A = ℕ} (get_or (replicate k 0) t 0) 0
zero_at zero t = refl
zero_at (suc k) zero = refl
zero_at (suc k) (suc t) = zero_at k t

padded_at : (F : List ℕ) (k t : ℕ) → get_or (F ++ replicate k 0) t 0 ≡ get_or F t 0
padded_at [] k t = zero_at k t
padded_at (x ∷ xs) k zero = refl
padded_at (x ∷ xs) k (suc t) = padded_at xs k t

pub flat_padded : (F : List ℕ) (k : ℕ) → is_flat (F ++ replicate k 0) ≡ is_flat F
flat_padded F k = fun_ext (λ t. ap (λ (x : ℕ). eqb x 1) (padded_at F k t))

-- ---- what follows the flags, Z, is not written

cond_padded : (b : Bool) (F G F' G' Z : List ℕ) → F' ≡ F ++ Z → G' ≡ G ++ Z → cond b F' G' ≡ cond b F G ++ Z
cond_padded true F G F' G' Z p q = p
cond_padded false F G F' G' Z p q = q

fold_padded : (f : List ℕ → ℕ → List ℕ) (Z : List ℕ) (m n : ℕ) → ((F : List ℕ) (k : ℕ) → k < n → length F ≡ m → length (f F k) ≡ m) → ((F : List ℕ) (k : ℕ) → k < n → length F ≡ m → f (F ++ Z) k ≡ f F k ++ Z) → (F : List ℕ) → length F ≡ m → (k : ℕ) → k ≤ n → fold_to f (F ++ Z) k ≡ fold_to f F k ++ Z
unfolding fold_to
fold_padded f Z m n keeps pads F p zero h = refl
fold_padded f Z m n keeps pads F p (suc k) h =
    let l : k ≤ n = omega arith in
    ap (λ (G : List ℕ). f G k) (fold_padded f Z m n keeps pads F p k l) ∙ pads (fold_to f F k) k h (fold_keeps f F (λ (G : List ℕ). length G ≡ m) n keeps p k l)

module _ (H : Halfedges) (R : List ℤ) (n : ℕ) (w : FlatIn H n) (Z : List ℕ) where
  set_padded : (F : List ℕ) (i : ℕ) → i < n / 3 → length F ≡ n / 3 → set (F ++ Z) i 1 ≡ set F i 1 ++ Z
  set_padded F i h p = set-append_left F Z i 1 (omega arith)

  neighbor_padded : (t : ℕ) → t < n / 3 → (F : List ℕ) (j : ℕ) → j < 3 → length F ≡ n / 3 → mark_neighbor H R t (F ++ Z) j ≡ mark_neighbor H R t F j ++ Z
  unfolding mark_neighbor
  neighbor_padded t h F j l p =
      cond_padded (is_face_neighbor H R t j) (set F (neighbor_tri H t j) 1) F (set (F ++ Z) (neighbor_tri H t j) 1) (F ++ Z) Z
      (set_padded F (neighbor_tri H t j) (omega (arith, w.triangles, w.paired_in (t * 3 + j) (omega arith))) p)
      refl

  mark_padded : (F : List ℕ) (t : ℕ) → t < n / 3 → length F ≡ n / 3 → mark_flat H R (F ++ Z) t ≡ mark_flat H R F t ++ Z
  unfolding mark_flat
  mark_padded F t h p =
      cond_padded (ltb 1 (face_neighbors H R t)) (fold_to (mark_neighbor H R t) (set F t 1) 3) F (fold_to (mark_neighbor H R t) (set (F ++ Z) t 1) 3) (F ++ Z) Z
      (ap (λ (G : List ℕ). fold_to (mark_neighbor H R t) G 3) (set_padded F t h p)
      ∙ fold_padded (mark_neighbor H R t) Z (n / 3) 3 (λ G j l q. length_neighbor H R (n / 3) t G j q) (neighbor_padded t h) (set F t 1) (length-set F t 1 ∙ p) 3 (omega arith))
      refl

-- the loop over a list of n zeros
pub flat_filled : (H : Halfedges) (R : List ℤ) (n : ℕ) → FlatIn H n → fold_to (mark_flat H R) (replicate n 0) (n / 3) ≡ flat_flags H R n
unfolding flat_faces flat_flags
flat_filled H R n w =
    let k = n - n / 3 in
    let q : n / 3 + k ≡ n = omega arith in
    let e : ◌≡◌ {A = List ℕ} (replicate n 0) (replicate (n / 3) 0 ++ replicate k 0) = ap {B = List ℕ} (λ i. replicate i 0) (sym q) ∙ sym (replicate-append-replicate (n / 3) k 0) in
    ap (λ (G : List ℕ). fold_to (mark_flat H R) G (n / 3)) e
    ∙ fold_padded (mark_flat H R) (replicate k 0) (n / 3) (n / 3) (λ G t l p. length_mark H R (n / 3) G t p) (mark_padded H R n w (replicate k 0)) (replicate (n / 3) 0) (length-replicate (n / 3) 0) (n / 3) (omega arith)

-- of a triangle it says what `flat_faces` does
pub flags_same : (H : Halfedges) (R : List ℤ) (n : ℕ) → is_flat (flat_flags H R n) ≡ is_flat (flat_faces H R n)
unfolding flat_flags
flags_same H R n = flat_padded (flat_faces H R n) (n - n / 3)
