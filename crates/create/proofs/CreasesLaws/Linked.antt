-- Laws of the linked lists of creases: how they are built, from the last edge to the first, and how they are read. Assumes nothing.
use Prim.Native.Nat.{ℕ, zero, suc, ◌+◌, ◌-◌, ◌≤◌, ◌<◌}
use native.Mathlib.Decide.{ℕ_discrete}
use native.Mathlib.Omega.{arith}
use mathlib.Core.Path.{◌≡◌, refl, sym, ap, ◌∙◌, subst}
use mathlib.Core.Logic.{◌≢◌}
use mathlib.Core.List.{List, [], ◌∷◌, foldl, map}
use mathlib.Core.Bool.{true, false, cond}
use lib.ListN.{length, get_or, set, drop, length-set}
use lib.Seq.{get_or-set_same, get_or-set_other}
use lib.Dec.{eqb, leb}
use lib.Ieee.{Float}
use borrow.Author.Tests.{eq-eqb, ne_eqb, le-leb, lt-leb}
use Rattle.mesh.specs.Mesh.{start_vert, paired_halfedge, Halfedges}
use Rattle.mesh.specs.Sound.{Sound}
use Rattle.create.specs.declared.creases.Crease.TheVariants.{NoCrease, OneEnd, Meeting}
use Rattle.create.specs.Edges.Smoothness.{is_crease, pair_at}
use Rattle.create.specs.Creases.Creases.{through_of, sums_of, mean_of, crease_of}
use Rattle.create.specs.Creases.Linked.{add_halfedge, add_crease, creases_from, Linked, halfedge_of}
use Rattle.create.proofs.CreasesLaws.Creases.{All, all_tail, creases_next, paired_apart, forward_apart}

-- ---- building

-- a place that is not in the list may be written
linked_other : (n : ℕ) (L : List ℕ) (end e x : ℕ) (l : List ℕ) (c : ℕ) → All (λ g. g ≢ e) l → Linked n L end c l → Linked n (set L e x) end c l
linked_other n L end e x [] c a d = d
linked_other n L end e x (g ∷ l) c a d =
    (d.0, subst (λ (y : ℕ). Linked n (set L e x) end y l) (sym (get_or-set_other L e g x 0 a.0)) (linked_other n L end e x l (get_or L g 0) a.1 d.1))

-- a halfedge is put in front
linked_push : (n : ℕ) (L : List ℕ) (end e c : ℕ) (l : List ℕ) → e < length L → All (λ g. g ≢ e) l → Linked n L end c l → Linked n (set L e c) end (suc n + e) (e ∷ l)
linked_push n L end e c l k a d =
    (refl, subst (λ (y : ℕ). Linked n (set L e c) end y l) (sym (get_or-set_same L e c 0 k)) (linked_other n L end e c l c a d))

-- each point's list is linked from its place of A
abbrev EachLinked : ℕ → List ℕ → List ℕ → (ℕ → ℕ) → (ℕ → List ℕ) → ℕ → Type 0
EachLinked n L A ends lists p = (v : ℕ) → v < p → Linked n L (ends v) (get_or A v 0) (lists v)

-- a write to each of the two lists, as `link_halfedge` does
push_keeps : (H : Halfedges) (n p e : ℕ) (L A : List ℕ) (ends : ℕ → ℕ) (lists : ℕ → List ℕ)
    → e < length L → length A ≡ p → start_vert H e < p → ((v : ℕ) → All (λ g. g ≢ e) (lists v)) → EachLinked n L A ends lists p
    → EachLinked n (set L e (get_or A (start_vert H e) 0)) (set A (start_vert H e) (suc n + e)) ends (λ v. add_halfedge H v e (lists v)) p
unfolding add_halfedge
push_keeps H n p e L A ends lists l a s apart d v q = go (ℕ_discrete (start_vert H e) v)
  where
    w : ℕ
    w = start_vert H e

    go : Dec (w ≡ v) → Linked n (set L e (get_or A w 0)) (ends v) (get_or (set A w (suc n + e)) v 0) (cond (eqb w v) (e ∷ lists v) (lists v))
    go (yes z) =
        let c : get_or (set A w (suc n + e)) v 0 ≡ suc n + e = ap (λ (y : ℕ). get_or (set A w (suc n + e)) y 0) (sym z) ∙ get_or-set_same A w (suc n + e) 0 (omega arith) in
        let old : Linked n L (ends v) (get_or A w 0) (lists v) = subst (λ (y : ℕ). Linked n L (ends v) (get_or A y 0) (lists v)) (sym z) (d v q) in
        rw (eq-eqb w v z, c) (linked_push n L (ends v) e (get_or A w 0) (lists v) l (apart v) old)
    go (no x) =
        rw (ne_eqb w v x, get_or-set_other A w v (suc n + e) 0 (λ z. x (sym z))) (linked_other n L (ends v) e (get_or A w 0) (lists v) (get_or A v 0) (apart v) (d v q))

module _ {H : Halfedges} {n p : ℕ} (s : Sound H n p) (S : List Float) (f : ℕ) (h : f < n) (ends : ℕ → ℕ) where
  abbrev from_here : ℕ → List ℕ
  from_here v = creases_from H S v (n - f) f

  abbrev from_next : ℕ → List ℕ
  from_next v = creases_from H S v (n - (f + 1)) (f + 1)

  -- no crease
  pub edge_passed : (A L : List ℕ) → is_crease H S f ≡ false → EachLinked n L A ends from_next p → EachLinked n L A ends from_here p
  unfolding add_crease
  edge_passed A L c d v q =
      let e : creases_from H S v (n - f) f ≡ from_next v = creases_next H S v n f h ∙ rw c in
      rw e (d v q)

  -- a crease: its pair is put in front first
  pub edge_linked : (A L A₁ L₁ A₂ L₂ : List ℕ) (k : ℕ) → length A ≡ p → length L ≡ n → is_crease H S f ≡ true → k ≡ paired_halfedge H f
      → L₁ ≡ set L k (get_or A (start_vert H k) 0) → A₁ ≡ set A (start_vert H k) (suc n + k)
      → L₂ ≡ set L₁ f (get_or A₁ (start_vert H f) 0) → A₂ ≡ set A₁ (start_vert H f) (suc n + f)
      → EachLinked n L A ends from_next p → EachLinked n L₂ A₂ ends from_here p
  unfolding add_crease
  edge_linked A L A₁ L₁ A₂ L₂ k a l c z e₁ d₁ e₂ d₂ d v q =
      let r : f + 1 + (n - (f + 1)) ≤ n = omega arith in
      let i : paired_halfedge H f < n = s.paired_below f h in
      let first : EachLinked n L₁ A₁ ends (λ w. add_halfedge H w (paired_halfedge H f) (from_next w)) p =
      rw (e₁, d₁, z) (push_keeps H n p (paired_halfedge H f) L A ends from_next (omega arith) a (s.start_below _ i)
      (λ w. paired_apart s S f h c w (n - (f + 1)) r) d) in
      let la : length A₁ ≡ p = rw d₁ (length-set A (start_vert H k) (suc n + k) ∙ a) in
      let ll : length L₁ ≡ n = rw e₁ (length-set L k (get_or A (start_vert H k) 0) ∙ l) in
      let both : EachLinked n L₂ A₂ ends (λ w. add_halfedge H w f (add_halfedge H w (paired_halfedge H f) (from_next w))) p =
      rw (e₂, d₂) (push_keeps H n p f L₁ A₁ ends (λ w. add_halfedge H w (paired_halfedge H f) (from_next w)) (omega arith) la (s.start_below f h)
      (λ w. forward_apart s S f h c w (n - (f + 1)) r) first) in
      let e : creases_from H S v (n - f) f ≡ add_halfedge H v f (add_halfedge H v (paired_halfedge H f) (from_next v)) = creases_next H S v n f h ∙ rw c in
      rw e (both v q)

-- ---- reading

module _ (L : List ℕ) {n end : ℕ} (low : end ≤ n) where
  pub linked_none : (c : ℕ) (l : List ℕ) → Linked n L end c l → c ≤ n → l ≡ []
  linked_none c [] d h = refl
  linked_none c (e ∷ l) d h = absurd (omega (arith, d.0))

  pub linked_some : (c e : ℕ) (l : List ℕ) → Linked n L end c l → c ≡ suc n + e → (l ≡ e ∷ drop 1 l) × Linked n L end (get_or L e 0) (drop 1 l)
  linked_some c e [] d h = absurd (omega arith)
  linked_some c e (g ∷ l) d h = let q : e ≡ g = omega (arith, d.0) in rw q (refl, d.1)

  pub linked_in : (P : ℕ → Type 0) (c e : ℕ) (l : List ℕ) → Linked n L end c l → All P l → c ≡ suc n + e → P e
  linked_in P c e [] d a h = absurd (omega arith)
  linked_in P c e (g ∷ l) d a h = let q : e ≡ g = omega (arith, d.0) in rw q a.0

  pub linked_first : (c : ℕ) (l : List ℕ) → Linked n L end c l → halfedge_of n c ≡ get_or l 0 end
  unfolding halfedge_of
  linked_first c [] d = rw d (rw (le-leb end n low))
  linked_first c (e ∷ l) d = let q : c - suc n ≡ e = omega (arith, d.0) in rw (lt-leb c n (omega (arith, d.0)), q)

  -- what the creases are to a point, by how many numbers above n there are
  pub crease_none : (H : Halfedges) (S : List Float) (c : ℕ) (l : List ℕ) → Linked n L end c l → c ≤ n → NoCrease ≡ crease_of (map (pair_at H S) l)
  unfolding crease_of
  crease_none H S c l d h = rw (linked_none c l d h)

  module _ (H : Halfedges) (S : List Float) (c first : ℕ) (l : List ℕ) (d : Linked n L end c l) (h : c ≡ suc n + first) where
    abbrev next : ℕ
    next = get_or L first 0

    pub crease_end : next ≤ n → OneEnd ≡ crease_of (map (pair_at H S) l)
    unfolding crease_of
    crease_end k =
        let s = linked_some c first l d h in
        let e : drop 1 l ≡ [] = linked_none next (drop 1 l) s.1 k in
        rw (s.0 ∙ ap (λ (t : List ℕ). first ∷ t) e)

    module _ (second : ℕ) (j : next ≡ suc n + second) where
      two_creases : (l ≡ first ∷ second ∷ drop 1 (drop 1 l)) × Linked n L end (get_or L second 0) (drop 1 (drop 1 l))
      two_creases =
          let s = linked_some c first l d h in
          let t = linked_some next second (drop 1 l) s.1 j in
          (s.0 ∙ ap (λ (t : List ℕ). first ∷ t) t.0, t.1)

      pub crease_through : get_or L second 0 ≤ n → through_of (pair_at H S first) (pair_at H S second) ≡ crease_of (map (pair_at H S) l)
      unfolding crease_of
      crease_through k =
          let e : drop 1 (drop 1 l) ≡ [] = linked_none (get_or L second 0) (drop 1 (drop 1 l)) two_creases.1 k in
          rw (two_creases.0 ∙ ap (λ (t : List ℕ). first ∷ second ∷ t) e)

      pub crease_meeting : n < get_or L second 0 → Meeting (mean_of (sums_of (map (pair_at H S) l))) ≡ crease_of (map (pair_at H S) l)
      unfolding crease_of
      crease_meeting k =
          let s = linked_some (get_or L second 0) (get_or L second 0 - suc n) (drop 1 (drop 1 l)) two_creases.1 (omega arith) in
          rw (two_creases.0 ∙ ap (λ (t : List ℕ). first ∷ second ∷ t) s.0)

-- ---- a loop over a linked list: it is done when the number is at most n

-- what is left of the list at the number c
abbrev pub left_of : ℕ → List ℕ → ℕ → ℕ → List ℕ
left_of n L zero c = []
left_of n L (suc k) c = cond (leb c n) [] ((c - (n + 1)) ∷ left_of n L k (get_or L (c - (n + 1)) 0))

-- `step` folded over what is left gives `all`
pub record Walking (n : ℕ) (L : List ℕ) (end : ℕ) {B : Type 0} (step : B → ℕ → B) (all : B) (c : ℕ) (s : B) : Type 0 where
  pub linked : Linked n L end c (left_of n L n c)
  pub few : length (left_of n L n c) ≤ n
  pub below : All (λ e. e < n) (left_of n L n c)
  pub left : foldl step s (left_of n L n c) ≡ all

module _ (L : List ℕ) {n end : ℕ} (low : end ≤ n) where
  left_is : (k c : ℕ) (l : List ℕ) → Linked n L end c l → length l ≤ k → left_of n L k c ≡ l
  left_is zero c [] d h = refl
  left_is zero c (e ∷ l) d h = absurd (omega arith)
  left_is (suc k) c [] d h = rw (le-leb c n (omega arith))
  left_is (suc k) c (e ∷ l) d h =
      let q : c - (n + 1) ≡ e = omega (arith, d.0) in
      rw (lt-leb c n (omega (arith, d.0)), q) (ap (λ (t : List ℕ). e ∷ t) (left_is k (get_or L e 0) l d.1 (omega arith)))

  module _ {B : Type 0} (step : B → ℕ → B) (all : B) where
    pub walk_start : (c : ℕ) (s : B) (l : List ℕ) → Linked n L end c l → length l ≤ n → All (λ e. e < n) l → foldl step s l ≡ all → Walking n L end step all c s
    walk_start c s l d f a e =
        let q : left_of n L n c ≡ l = left_is n c l d f in
        record { linked = rw q d; few = rw q f; below = rw q a; left = rw q e }

    pub walk_end : (c : ℕ) (s : B) → Walking n L end step all c s → c ≤ n → s ≡ all
    walk_end c s w h = ap (foldl step s) (sym (linked_none L low c (left_of n L n c) w.linked h)) ∙ w.left

    module _ (c e : ℕ) (s : B) (w : Walking n L end step all c s) (h : c ≡ suc n + e) where
      pub walk_below : e < n
      walk_below = linked_in L low (λ g. g < n) c e (left_of n L n c) w.linked w.below h

      after : (left_of n L n c ≡ e ∷ drop 1 (left_of n L n c)) × Linked n L end (get_or L e 0) (drop 1 (left_of n L n c))
      after = linked_some L low c e (left_of n L n c) w.linked h

      shorter : length (left_of n L n c) ≡ suc (length (drop 1 (left_of n L n c)))
      shorter = ap length after.0

      pub walk_step : (t : B) → t ≡ step s e → Walking n L end step all (get_or L e 0) t
      walk_step t q =
          walk_start (get_or L e 0) t (drop 1 (left_of n L n c)) after.1 (omega (arith, shorter, w.few)) (all_tail (λ g. g < n) (left_of n L n c) w.below)
          (ap (λ (x : B). foldl step x (drop 1 (left_of n L n c))) q ∙ ap (foldl step s) (sym after.0) ∙ w.left)

      pub walk_less : length (left_of n L n (get_or L e 0)) < length (left_of n L n c)
      walk_less =
          let q = left_is n (get_or L e 0) (drop 1 (left_of n L n c)) after.1 (omega (arith, shorter, w.few)) in
          omega (arith, ap length q, shorter)
