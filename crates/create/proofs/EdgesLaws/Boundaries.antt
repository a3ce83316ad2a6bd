-- The entries of the flat faces behind the caller's: what holds of each of them, and that a list of smoothness takes them in halfedge by halfedge. Assumes nothing.
use Prim.Native.Nat.{ℕ, zero, suc, ◌+◌, ◌*◌, ◌/◌, ◌%◌, ◌≤◌, ◌<◌}
use native.Mathlib.Omega.{arith}
use mathlib.Core.Path.{◌≡◌, refl, sym, ap, ◌∙◌}
use mathlib.Core.List.{List, [], ◌∷◌, foldl}
use mathlib.Core.Bool.{Bool, true, false, cond, not, ◌||◌}
use lib.IntN.{ℤ}
use lib.Ieee.{Float, of_bits}
use Rattle.float.specs.Ops.{zero as 0f}
use Rattle.mesh.specs.Mesh.{paired_halfedge, same_face, Halfedges}
use Rattle.common.specs.Fold.{fold_to}
use Rattle.questions.specs.Questions.{sign_clear}
use Rattle.create.specs.declared.sharp.Smoothness.{Smoothness}
use Rattle.create.specs.Sharp.EntrySmoothness.{EntriesIn, add_entry, add_smoothness}
use Rattle.create.specs.Edges.Edges.{side_of, push, push_boundary, push_boundaries, sharpened_edges}
use Rattle.create.specs.Edges.Smoothness.{is_flat_boundary, add_flat_boundary, smoothness}

-- ---- of each entry of a list

abbrev pub Each : (Smoothness → Type 0) → List Smoothness → Type 0
Each P [] = Unit {0}
Each P (x ∷ l) = P x × Each P l

each_push : (P : Smoothness → Type 0) (l : List Smoothness) (x : Smoothness) → Each P l → P x → Each P (push l x)
each_push P [] x a h = (h, tt)
each_push P (y ∷ l) x a h = (a.0, each_push P l x a.1 h)

-- names one of n halfedges, and is a number with a clear sign bit
abbrev pub Fits : ℕ → Smoothness → Type 0
Fits n x = (x.halfedge < n) × (sign_clear x.smoothness ≡ true)

each_in : (E : List Smoothness) (n : ℕ) → EntriesIn E n → Each (Fits n) E
each_in [] n a = tt
each_in (x ∷ E) n a = (
  (a.named 0 (omega arith), a.clear 0 (omega arith)),
  each_in E n (record { named = λ k h. a.named (suc k) (omega arith); clear = λ k h. a.clear (suc k) (omega arith) }),
)

-- ---- the loops

module _ (H : Halfedges) (R : List ℤ) (flat : ℕ → Bool) where
  module _ (n : ℕ) where
    each_boundary : (t : ℕ) (l : List Smoothness) (j : ℕ) → t * 3 + j < n → Each (Fits n) l → Each (Fits n) (push_boundary H R flat t l j)
    unfolding push_boundary sign_clear of_bits
    each_boundary t l j h a = go (not (flat (paired_halfedge H (t * 3 + j) / 3)) || not (same_face R t (paired_halfedge H (t * 3 + j) / 3)))
      where
        go : (b : Bool) → Each (Fits n) (cond b (push l (side_of (t * 3 + j) 0f)) l)
        go true = each_push (Fits n) l (side_of (t * 3 + j) 0f) a (h, refl)
        go false = a

    each_boundaries : (l : List Smoothness) (t : ℕ) → t * 3 + 3 ≤ n → Each (Fits n) l → Each (Fits n) (push_boundaries H R flat l t)
    unfolding push_boundaries fold_to
    each_boundaries l t h a = go (flat t)
      where
        go : (b : Bool) → Each (Fits n) (cond b (fold_to (push_boundary H R flat t) l 3) l)
        go true = each_boundary t _ 2 (omega arith) (each_boundary t _ 1 (omega arith) (each_boundary t l 0 (omega arith) a))
        go false = a

    each_fold : (E : List Smoothness) → Each (Fits n) E → (k : ℕ) → k * 3 ≤ n → Each (Fits n) (fold_to (push_boundaries H R flat) E k)
    unfolding fold_to
    each_fold E a zero h = a
    each_fold E a (suc k) h = each_boundaries (fold_to (push_boundaries H R flat) E k) k (omega arith) (each_fold E a k (omega arith))

    -- each of `sharpened_edges` fits
    pub each_sharpened : (E : List Smoothness) → EntriesIn E n → Each (Fits n) (sharpened_edges H R flat E n)
    unfolding sharpened_edges
    each_sharpened E a = each_fold E (each_in E n a) (n / 3) (omega arith)

  -- ---- what a list of smoothness makes of them

  fold_push : (S : List Float) (l : List Smoothness) (x : Smoothness) → foldl add_smoothness S (push l x) ≡ add_smoothness (foldl add_smoothness S l) x
  fold_push S [] x = refl
  fold_push S (y ∷ l) x = fold_push (add_smoothness S y) l x

  module _ (S : List Float) where
    abbrev taken : List Smoothness → List Float
    taken l = foldl add_smoothness S l

    -- one halfedge of a triangle of a flat face
    take_boundary : (t : ℕ) → flat t ≡ true → (l : List Smoothness) (j : ℕ) → j < 3 → taken (push_boundary H R flat t l j) ≡ add_flat_boundary H R flat (taken l) (t * 3 + j)
    unfolding push_boundary add_flat_boundary is_flat_boundary add_smoothness
    take_boundary t f l j h =
        let q : (t * 3 + j) / 3 ≡ t = omega arith in
        rw (q, f) (go (not (flat (paired_halfedge H (t * 3 + j) / 3)) || not (same_face R t (paired_halfedge H (t * 3 + j) / 3))))
      where
        go : (b : Bool) → taken (cond b (push l (side_of (t * 3 + j) 0f)) l) ≡ cond b (add_entry (taken l) (t * 3 + j) 0f) (taken l)
        go true = fold_push S l (side_of (t * 3 + j) 0f)
        go false = refl

    -- and of any other triangle
    pass_boundary : (t : ℕ) → flat t ≡ false → (U : List Float) (j : ℕ) → j < 3 → add_flat_boundary H R flat U (t * 3 + j) ≡ U
    unfolding add_flat_boundary is_flat_boundary
    pass_boundary t f U j h = let q : (t * 3 + j) / 3 ≡ t = omega arith in rw (q, f)

    take_boundaries : (t : ℕ) (l : List Smoothness) → taken (push_boundaries H R flat l t) ≡ add_flat_boundary H R flat (add_flat_boundary H R flat (add_flat_boundary H R flat (taken l) (t * 3 + 0)) (t * 3 + 1)) (t * 3 + 2)
    unfolding push_boundaries fold_to
    take_boundaries t l = go (flat t) refl
      where
        go : (b : Bool) → flat t ≡ b → taken (cond b (fold_to (push_boundary H R flat t) l 3) l) ≡ add_flat_boundary H R flat (add_flat_boundary H R flat (add_flat_boundary H R flat (taken l) (t * 3 + 0)) (t * 3 + 1)) (t * 3 + 2)
        go true f =
            take_boundary t f _ 2 (omega arith)
            ∙ ap (λ (U : List Float). add_flat_boundary H R flat U (t * 3 + 2)) (take_boundary t f _ 1 (omega arith) ∙ ap (λ (U : List Float). add_flat_boundary H R flat U (t * 3 + 1)) (take_boundary t f l 0 (omega arith)))
        go false f =
            sym (pass_boundary t f _ 2 (omega arith) ∙ pass_boundary t f _ 1 (omega arith) ∙ pass_boundary t f (taken l) 0 (omega arith))

    take_fold : (E : List Smoothness) (k : ℕ) → taken (fold_to (push_boundaries H R flat) E k) ≡ fold_to (add_flat_boundary H R flat) (taken E) (k * 3)
    unfolding fold_to
    take_fold E zero = refl
    take_fold E (suc k) =
        let a : k * 3 + 0 ≡ k * 3 = omega arith in
        let b : k * 3 + 1 ≡ suc (k * 3) = omega arith in
        let c : k * 3 + 2 ≡ suc (suc (k * 3)) = omega arith in
        let d : suc k * 3 ≡ suc (suc (suc (k * 3))) = omega arith in
        take_boundaries k (fold_to (push_boundaries H R flat) E k) ∙ rw (a, b, c, d, take_fold E k) refl

    -- all of them
    pub take_sharpened : (E : List Smoothness) (n : ℕ) → n % 3 ≡ 0 → taken (sharpened_edges H R flat E n) ≡ smoothness H R flat (taken E) n
    unfolding sharpened_edges smoothness
    take_sharpened E n h = let q : n / 3 * 3 ≡ n = omega arith in take_fold E (n / 3) ∙ rw q refl
