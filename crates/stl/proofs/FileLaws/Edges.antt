-- Directed edges and their reverses, and what question 32 says of them: where all halfedges pass it, the pairing goes both ways. Assumes nothing.
use Prim.Native.Nat.{ℕ, ◌≤◌, ◌<◌}
use native.Mathlib.Omega.{arith}
use native.Mathlib.Nat.{eq-or-lt_of_le}
use mathlib.Core.Path.{◌≡◌, refl, sym, ◌∙◌}
use mathlib.Core.List.{List}
use mathlib.Core.Logic.{◌⊎◌, inl, inr}
use mathlib.Core.Bool.{Bool, true, false, not, ◌&&◌}
use lib.Dec.{eqb, ltb}
use Rattle.std.proofs.lemmas.Bool.{and_parts, and_from, eqb-true, eqb-false, eq-eqb, ne_eqb, ltb-true, not-true, not-false}
use Rattle.common.specs.Count.{count_below}
use Rattle.common.proofs.Count.{count_one, count_only}
use Rattle.mesh.specs.Mesh.{next_halfedge}
use Rattle.common.specs.Lowest.{lowest}
use Rattle.common.proofs.Lowest.{lowest_within, lowest_found, lowest_least}
use Rattle.stl.specs.File.File.{halfedge_count, corner_at}
use Rattle.stl.specs.File.Points.{same_point}
use Rattle.stl.specs.File.Edges.{same_edge, is_reverse, pair_of, is_paired}
use Rattle.stl.proofs.FileLaws.Points.{same_equal, equal_same}

-- where a passes the test t and the count is not 1, another one passes
pub count_other : (t : ℕ → Bool) (n a : ℕ) → a < n → t a ≡ true → (count_below t n ≡ 1 → ⊥) → (b : ℕ) × (b < n) × (t b ≡ true) × (b ≡ a → ⊥)
count_other t n a h e d = go (eq-or-lt_of_le (lowest_within u n))
  where
    u : ℕ → Bool
    u b = not (t b && not (eqb b a))

    rest : n ≤ lowest u n → (b : ℕ) → b < n → (b ≡ a → ⊥) → t b ≡ false
    rest w b l x = pick (t b) refl
      where
        pick : (v : Bool) → t b ≡ v → t b ≡ false
        pick false q = q
        pick true q = let y : u b ≡ false = rw (q, ne_eqb b a x) in let z = lowest_least u n b y in absurd (omega arith)

    go : (lowest u n ≡ n) ⊎ (lowest u n < n) → (b : ℕ) × (b < n) × (t b ≡ true) × (b ≡ a → ⊥)
    go (inl q) = absurd (d (count_only t n a h e (rest (omega arith))))
    go (inr l) =
        let p = and_parts (t (lowest u n)) (not (eqb (lowest u n) a)) (not-false _ (lowest_found u n l)) in
        (lowest u n, l, p.0, eqb-false _ _ (not-true _ p.1))

pub false_or_true : (b : Bool) → (b ≡ true → ⊥) → b ≡ false
false_or_true true f = absurd (f refl)
false_or_true false f = refl

module _ (s : List ℕ) where
  pub reverse_corners : (e f : ℕ) → is_reverse s e f ≡ true → (corner_at s e ≡ corner_at s (next_halfedge f)) × (corner_at s (next_halfedge e) ≡ corner_at s f)
  unfolding is_reverse
  reverse_corners e f r = let p = and_parts (same_point s e (next_halfedge f)) (same_point s (next_halfedge e) f) r in (same_equal s _ _ p.0, same_equal s _ _ p.1)

  pub pair_found : (e : ℕ) → pair_of s e < halfedge_count s → not (is_reverse s e (pair_of s e)) ≡ false
  unfolding pair_of
  pair_found e h = lowest_found (λ f. not (is_reverse s e f)) (halfedge_count s) h

  pub corners_edge : (e f : ℕ) → corner_at s e ≡ corner_at s f → corner_at s (next_halfedge e) ≡ corner_at s (next_halfedge f) → same_edge s e f ≡ true
  unfolding same_edge
  corners_edge e f a b = and_from _ _ (equal_same s e f a) (equal_same s _ _ b)

  module _ (e : ℕ) (paired : is_paired s e ≡ true) where
    once_edge : count_below (same_edge s e) (halfedge_count s) ≡ 1
    unfolding is_paired
    once_edge = let p = and_parts (eqb (count_below (same_edge s e) (halfedge_count s)) 1) (ltb (pair_of s e) (halfedge_count s)) paired in eqb-true _ _ p.0

    pub pair_below : pair_of s e < halfedge_count s
    unfolding is_paired
    pair_below = let p = and_parts (eqb (count_below (same_edge s e) (halfedge_count s)) 1) (ltb (pair_of s e) (halfedge_count s)) paired in ltb-true _ _ p.1

    pub pair_corners : (corner_at s e ≡ corner_at s (next_halfedge (pair_of s e))) × (corner_at s (next_halfedge e) ≡ corner_at s (pair_of s e))
    pair_corners = reverse_corners e (pair_of s e) (not-false _ (pair_found e pair_below))

  pub pair_back : (e : ℕ) → e < halfedge_count s → is_paired s e ≡ true → is_paired s (pair_of s e) ≡ true → pair_of s (pair_of s e) ≡ e
  pair_back e h a b =
      let f = pair_of s e in
      let g = pair_of s f in
      let p = pair_corners e a in
      let q = pair_corners f b in
      count_one (same_edge s e) (halfedge_count s) g e (once_edge e a) (corners_edge e g (p.0 ∙ q.1) (p.1 ∙ q.0)) (corners_edge e e refl refl) (pair_below f b) h

  pub corners_reverse : (e f : ℕ) → corner_at s e ≡ corner_at s (next_halfedge f) → corner_at s (next_halfedge e) ≡ corner_at s f → is_reverse s e f ≡ true
  unfolding is_reverse
  corners_reverse e f a b = and_from _ _ (equal_same s _ _ a) (equal_same s _ _ b)

  -- two halfedges that are reverses of one have the same directed edge, and so have two of which one is the reverse
  pub reverses_same : (e f g : ℕ) → is_reverse s e f ≡ true → is_reverse s e g ≡ true → same_edge s f g ≡ true
  reverses_same e f g a b =
      let p = reverse_corners e f a in
      let q = reverse_corners e g b in
      corners_edge f g (sym p.1 ∙ q.1) (sym p.0 ∙ q.0)

  pub reverse_back : (e f : ℕ) → is_reverse s e f ≡ true → is_reverse s f e ≡ true
  reverse_back e f a = let p = reverse_corners e f a in corners_reverse f e (sym p.1) (sym p.0)

  -- a halfedge whose directed edge another one has is not paired
  pub twice_bad : (e f : ℕ) → e < halfedge_count s → f < halfedge_count s → (e ≡ f → ⊥) → same_edge s e f ≡ true → is_paired s e ≡ false
  unfolding is_paired
  twice_bad e f he hf d q =
      let c : eqb (count_below (same_edge s e) (halfedge_count s)) 1 ≡ false = ne_eqb _ _ (λ o. d (count_one (same_edge s e) (halfedge_count s) e f o (corners_edge e e refl refl) q he hf)) in
      rw c

  pub alone_bad : (e : ℕ) → ((f : ℕ) → f < halfedge_count s → is_reverse s e f ≡ true → ⊥) → is_paired s e ≡ false
  unfolding is_paired
  alone_bad e d = false_or_true _ (λ p. let q = and_parts (eqb (count_below (same_edge s e) (halfedge_count s)) 1) (ltb (pair_of s e) (halfedge_count s)) p in let l = ltb-true _ _ q.1 in d (pair_of s e) l (not-false _ (pair_found e l)))

  pub pair_there : (e : ℕ) → is_paired s e ≡ true → (pair_of s e < halfedge_count s) × (is_reverse s e (pair_of s e) ≡ true)
  unfolding is_paired
  pair_there e p =
      let q = and_parts (eqb (count_below (same_edge s e) (halfedge_count s)) 1) (ltb (pair_of s e) (halfedge_count s)) p in
      let l = ltb-true _ _ q.1 in
      (l, not-false _ (pair_found e l))

  pub pair_least : (e f : ℕ) → is_reverse s e f ≡ true → pair_of s e ≤ f
  unfolding pair_of
  pair_least e f r = lowest_least (λ f. not (is_reverse s e f)) (halfedge_count s) f (rw r)

  pub unpaired : (e : ℕ) → ltb (pair_of s e) (halfedge_count s) ≡ true → is_paired s e ≡ false → count_below (same_edge s e) (halfedge_count s) ≡ 1 → ⊥
  unfolding is_paired
  unpaired e q b o = let p : eqb (count_below (same_edge s e) (halfedge_count s)) 1 ≡ true = eq-eqb _ _ o in let t = and_from _ _ p q in let z : ◌≡◌ {A = ℕ} 0 1 = cc in omega arith

  pub edge_corners : (e f : ℕ) → same_edge s e f ≡ true → (corner_at s e ≡ corner_at s f) × (corner_at s (next_halfedge e) ≡ corner_at s (next_halfedge f))
  unfolding same_edge
  edge_corners e f q = let p = and_parts (same_point s e f) (same_point s (next_halfedge e) (next_halfedge f)) q in (same_equal s _ _ p.0, same_equal s _ _ p.1)

  pub edge_reverse : (e g f : ℕ) → same_edge s e g ≡ true → is_reverse s f e ≡ true → is_reverse s f g ≡ true
  edge_reverse e g f q r = let p = edge_corners e g q in let w = reverse_corners f e r in corners_reverse f g (w.0 ∙ p.1) (w.1 ∙ p.0)
