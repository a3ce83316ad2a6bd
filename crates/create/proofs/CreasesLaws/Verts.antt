-- The scratch lists say what the Rust's map `vert_tangents` says: `vert_tangents_lem`. Assumes nothing.
use Prim.Native.Nat.{ℕ, zero, suc, ◌+◌, ◌≤◌, ◌<◌}
use native.Mathlib.Nat.{le_refl}
use native.Mathlib.Omega.{arith}
use mathlib.Core.Path.{◌≡◌, refl, sym, ap, ◌∙◌}
use mathlib.Core.List.{List, [], ◌∷◌, ◌++◌, map, append-nil, append_assoc, map-append}
use mathlib.Core.Bool.{Bool, true, false, cond}
use lib.Dec.{eqb}
use lib.Ieee.{Float}
use Rattle.mesh.specs.Mesh.{start_vert, paired_halfedge, Halfedges}
use Rattle.common.specs.Fold.{fold_to}
use Rattle.mesh.specs.Sound.{Sound}
use Rattle.create.specs.Edges.Edges.{push, Pair, pair_of, Entry, absent, present}
use Rattle.create.specs.Edges.Smoothness.{is_crease, pair_at, SameMap}
use Rattle.create.specs.Creases.Creases.{push_at, push_edge, vert_tangents}
use Rattle.create.specs.Creases.Linked.{add_halfedge, add_crease, creases_from, creases_at, pairs_at}

-- ---- one edge more, at the end

module _ (H : Halfedges) (S : List Float) (v : ℕ) where
  halfedge_end : (e : ℕ) (l m : List ℕ) → add_halfedge H v e (l ++ m) ≡ add_halfedge H v e l ++ m
  unfolding add_halfedge
  halfedge_end e l m = go (eqb (start_vert H e) v)
    where
      go : (b : Bool) → cond b (e ∷ (l ++ m)) (l ++ m) ≡ cond b (e ∷ l) l ++ m
      go true = refl
      go false = refl

  crease_end : (f : ℕ) (l m : List ℕ) → add_crease H S v f (l ++ m) ≡ add_crease H S v f l ++ m
  unfolding add_crease
  crease_end f l m = go (is_crease H S f)
    where
      k : ℕ
      k = paired_halfedge H f

      go : (b : Bool) → cond b (add_halfedge H v f (add_halfedge H v k (l ++ m))) (l ++ m) ≡ cond b (add_halfedge H v f (add_halfedge H v k l)) l ++ m
      go true = ap (add_halfedge H v f) (halfedge_end k l m) ∙ halfedge_end f (add_halfedge H v k l) m
      go false = refl

  creases_last : (k i : ℕ) → creases_from H S v (suc k) i ≡ creases_from H S v k i ++ add_crease H S v (i + k) []
  unfolding creases_from
  creases_last zero i = let q : i + 0 ≡ i = omega arith in rw q refl
  creases_last (suc k) i =
      let q : suc i + k ≡ i + suc k = omega arith in
      let last = creases_last k (suc i) in
      ap (add_crease H S v i) (rw q at last) ∙ crease_end i (creases_from H S v k (suc i)) (add_crease H S v (i + suc k) [])

-- ---- the map

module _ {H : Halfedges} {n p : ℕ} (s : Sound H n p) (S : List Float) (M : ℕ → Entry) (same : SameMap H M S n) (v : ℕ) where
  abbrev pairs : List ℕ → List Pair
  pairs l = map (pair_at H S) l

  -- the sides exchanged are those of the pair
  exchanged : (f : ℕ) → f < n → pair_of (pair_at H S f).other (pair_at H S f).own ≡ pair_at H S (paired_halfedge H f)
  exchanged f h = rw (s.paired_back f h) refl

  -- a crease at f
  pushed : (B : ℕ → List Pair) (l : List ℕ) (f : ℕ) → f < n → B v ≡ pairs l → push_edge H B (present (pair_at H S f)) v ≡ pairs (l ++ add_halfedge H v f (add_halfedge H v (paired_halfedge H f) []))
  unfolding push_edge push_at add_halfedge
  pushed B l f h e =
      rw (exchanged f h, e) (go (eqb (start_vert H f) v) (eqb (start_vert H (paired_halfedge H f)) v))
    where
      k : ℕ
      k = paired_halfedge H f

      go : (a b : Bool) → cond b (push (cond a (push (pairs l) (pair_at H S f)) (pairs l)) (pair_at H S k)) (cond a (push (pairs l) (pair_at H S f)) (pairs l)) ≡ pairs (l ++ cond a (f ∷ cond b (k ∷ []) []) (cond b (k ∷ []) []))
      go true true = append_assoc (pairs l) (pair_at H S f ∷ []) (pair_at H S k ∷ []) ∙ sym (map-append (pair_at H S) l (f ∷ k ∷ []))
      go true false = sym (map-append (pair_at H S) l (f ∷ []))
      go false true = sym (map-append (pair_at H S) l (k ∷ []))
      go false false = ap pairs (sym (append-nil l))

  -- the keys below k
  first_keys : (k : ℕ) → k ≤ n → fold_to (λ B f. push_edge H B (M f)) (λ w. []) k v ≡ pairs (creases_from H S v k 0)
  unfolding fold_to creases_from add_crease push_edge
  first_keys zero h = refl
  first_keys (suc k) h = rw (same k h) (go (first_keys k (omega arith)) (is_crease H S k) refl)
    where
      B : ℕ → List Pair
      B = fold_to (λ B f. push_edge H B (M f)) (λ w. []) k

      l : List ℕ
      l = creases_from H S v k 0

      last : (m : List ℕ) → add_crease H S v k [] ≡ m → creases_from H S v (suc k) 0 ≡ l ++ m
      last m q = let z : 0 + k ≡ k = omega arith in creases_last H S v k 0 ∙ rw z (ap (λ (t : List ℕ). l ++ t) q)

      go : B v ≡ pairs l → (b : Bool) → is_crease H S k ≡ b → push_edge H B (cond b (present (pair_at H S k)) absent) v ≡ pairs (creases_from H S v (suc k) 0)
      go e true q = pushed B l k h e ∙ ap pairs (sym (last _ (rw q refl)))
      go e false q = e ∙ ap pairs (sym (append-nil l) ∙ sym (last [] (rw q refl)))

  pub vert_tangents_lem : vert_tangents H M n v ≡ pairs_at H S n v
  unfolding vert_tangents creases_at
  vert_tangents_lem = first_keys n (le_refl n)
