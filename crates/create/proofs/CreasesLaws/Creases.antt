-- What the creases at a point are: halfedges that start there, each once, and at most as many as there are halfedges. Assumes nothing.
use Prim.Native.Nat.{ℕ, zero, suc, ◌+◌, ◌-◌, ◌≤◌, ◌<◌}
use native.Mathlib.Numerals.{add-one}
use native.Mathlib.Omega.{arith}
use mathlib.Core.Path.{◌≡◌, refl, sym, ap, ◌∙◌}
use mathlib.Core.Logic.{◌≢◌}
use mathlib.Core.List.{List, [], ◌∷◌}
use mathlib.Core.Bool.{Bool, true, false, cond, not}
use lib.ListN.{length, drop}
use lib.Dec.{eqb}
use lib.Ieee.{Float}
use borrow.Author.Tests.{eqb-true}
use Rattle.mesh.specs.Mesh.{start_vert, paired_halfedge, is_forward, Halfedges}
use Rattle.mesh.specs.Sound.{Sound}
use Rattle.std.proofs.lemmas.Bool.{and_parts, both_ways}
use Rattle.mesh.proofs.Pairs.{one_forward, paired_injective, paired_other}
use Rattle.create.specs.Edges.Smoothness.{is_crease}
use Rattle.create.specs.Creases.Linked.{add_halfedge, add_crease, creases_from, creases_at}

-- ---- of each halfedge of a list

abbrev pub All : (ℕ → Type 0) → List ℕ → Type 0
All P [] = Unit {0}
All P (e ∷ l) = P e × All P l

pub all_map : {P R : ℕ → Type 0} → ((e : ℕ) → P e → R e) → (l : List ℕ) → All P l → All R l
all_map h [] a = tt
all_map h (e ∷ l) a = (h e a.0, all_map h l a.1)

pub all_tail : (P : ℕ → Type 0) (l : List ℕ) → All P l → All P (drop 1 l)
all_tail P [] a = tt
all_tail P (e ∷ l) a = a.1

pub crease_forward : (H : Halfedges) (S : List Float) (f : ℕ) → is_crease H S f ≡ true → is_forward H f ≡ true
unfolding is_crease
crease_forward H S f e = (and_parts (is_forward H f) _ e).0

-- ---- of each crease at the point v

module _ (H : Halfedges) (S : List Float) (v : ℕ) where
  module _ (P : ℕ → Type 0) where
    pub all_halfedge : (e : ℕ) (l : List ℕ) → (start_vert H e ≡ v → P e) → All P l → All P (add_halfedge H v e l)
    unfolding add_halfedge
    all_halfedge e l h a = go (eqb (start_vert H e) v) refl
      where
        go : (b : Bool) → eqb (start_vert H e) v ≡ b → All P (cond b (e ∷ l) l)
        go true q = (h (eqb-true _ _ q), a)
        go false q = a

    all_crease : (f : ℕ) (l : List ℕ) → (is_crease H S f ≡ true → start_vert H f ≡ v → P f) → (is_crease H S f ≡ true → start_vert H (paired_halfedge H f) ≡ v → P (paired_halfedge H f)) → All P l → All P (add_crease H S v f l)
    unfolding add_crease
    all_crease f l h k a = go (is_crease H S f) refl
      where
        go : (b : Bool) → is_crease H S f ≡ b → All P (cond b (add_halfedge H v f (add_halfedge H v (paired_halfedge H f) l)) l)
        go true q = all_halfedge f (add_halfedge H v (paired_halfedge H f) l) (h q) (all_halfedge (paired_halfedge H f) l (k q) a)
        go false q = a

    pub all_creases : (k i : ℕ) → ((f : ℕ) → i ≤ f → f < i + k → is_crease H S f ≡ true → start_vert H f ≡ v → P f) → ((f : ℕ) → i ≤ f → f < i + k → is_crease H S f ≡ true → start_vert H (paired_halfedge H f) ≡ v → P (paired_halfedge H f)) → All P (creases_from H S v k i)
    unfolding creases_from
    all_creases zero i h g = tt
    all_creases (suc k) i h g =
        all_crease i (creases_from H S v k (suc i)) (h i (omega arith) (omega arith)) (g i (omega arith) (omega arith))
        (all_creases k (suc i) (λ f a b. h f (omega arith) (omega arith)) (λ f a b. g f (omega arith) (omega arith)))

  -- one edge further down
  pub creases_next : (n f : ℕ) → f < n → creases_from H S v (n - f) f ≡ add_crease H S v f (creases_from H S v (n - (f + 1)) (f + 1))
  unfolding creases_from
  creases_next n f h = let q : n - f ≡ suc (n - (f + 1)) = omega arith in rw (q, add-one f)

  pub creases_end : (n : ℕ) → creases_from H S v (n - n) n ≡ []
  unfolding creases_from
  creases_end n = let q : n - n ≡ 0 = omega arith in rw q

  pub creases_all : (n : ℕ) → creases_from H S v (n - 0) 0 ≡ creases_at H S n v
  unfolding creases_at
  creases_all n = let q : n - 0 ≡ n = omega arith in rw q

-- ---- on a sound mesh

module _ {H : Halfedges} {n p : ℕ} (s : Sound H n p) (S : List Float) (v : ℕ) where
  -- they are halfedges that start at v
  pub creases_in : All (λ e. (e < n) × (start_vert H e ≡ v)) (creases_at H S n v)
  unfolding creases_at
  creases_in =
      all_creases H S v (λ e. (e < n) × (start_vert H e ≡ v)) n 0
      (λ f a b c q. (omega arith, q))
      (λ f a b c q. (s.paired_below f (omega arith), q))

  pub creases_below : All (λ e. e < n) (creases_at H S n v)
  creases_below = all_map (λ e a. a.0) (creases_at H S n v) creases_in

  -- an edge has one end at v at most
  one_end : (f : ℕ) → f < n → (l : List ℕ) → length (add_halfedge H v f (add_halfedge H v (paired_halfedge H f) l)) ≤ suc (length l)
  unfolding add_halfedge
  one_end f h l = go (eqb (start_vert H f) v) (eqb (start_vert H (paired_halfedge H f)) v) refl refl
    where
      go : (a b : Bool) → eqb (start_vert H f) v ≡ a → eqb (start_vert H (paired_halfedge H f)) v ≡ b → length (cond a (f ∷ cond b (paired_halfedge H f ∷ l) l) (cond b (paired_halfedge H f ∷ l) l)) ≤ suc (length l)
      go true true q r = absurd (s.ends_differ f h (eqb-true _ _ q ∙ sym (eqb-true _ _ r) ∙ s.paired_start f h))
      go true false q r = omega arith
      go false true q r = omega arith
      go false false q r = omega arith

  few_from : (k i : ℕ) → i + k ≤ n → length (creases_from H S v k i) ≤ k
  unfolding creases_from add_crease
  few_from zero i h = omega arith
  few_from (suc k) i h = go (is_crease H S i) (few_from k (suc i) (omega arith))
    where
      l : List ℕ
      l = creases_from H S v k (suc i)

      go : (b : Bool) → length l ≤ k → length (cond b (add_halfedge H v i (add_halfedge H v (paired_halfedge H i) l)) l) ≤ suc k
      go true ih = omega (arith, one_end i (omega arith) l)
      go false ih = omega arith

  pub creases_few : length (creases_at H S n v) ≤ n
  unfolding creases_at
  creases_few = few_from n 0 (omega arith)

-- ---- a halfedge is on one edge only

module _ {H : Halfedges} {n p : ℕ} (s : Sound H n p) (S : List Float) (f : ℕ) (h : f < n) (c : is_crease H S f ≡ true) where
  -- the pair of a forward halfedge is not forward
  backward : (g : ℕ) → g < n → is_crease H S g ≡ true → is_forward H (paired_halfedge H g) ≡ false
  backward g l d = one_forward s g l ∙ ap not (crease_forward H S g d)

  forward : is_forward H f ≡ true
  forward = crease_forward H S f c

  module _ (v k : ℕ) (r : f + 1 + k ≤ n) where
    pub paired_apart : All (λ g. g ≢ paired_halfedge H f) (creases_from H S v k (f + 1))
    paired_apart =
        all_creases H S v (λ g. g ≢ paired_halfedge H f) k (f + 1)
        (λ g a b d q z. both_ways _ (backward f h c) (ap (λ (e : ℕ). is_forward H e) (sym z) ∙ crease_forward H S g d))
        (λ g a b d q z. let e : g ≡ f = paired_injective s g f (omega arith) h z in omega arith)

    pub forward_apart : All (λ g. g ≢ f) (add_halfedge H v (paired_halfedge H f) (creases_from H S v k (f + 1)))
    forward_apart =
        all_halfedge H S v (λ g. g ≢ f) (paired_halfedge H f) (creases_from H S v k (f + 1)) (λ q. paired_other s f h)
        (all_creases H S v (λ g. g ≢ f) k (f + 1)
        (λ g a b d q z. omega arith)
        (λ g a b d q z. both_ways _ (ap (λ (e : ℕ). is_forward H e) (sym z) ∙ backward g (omega arith) d) forward))
