-- What `crease_at` and `first_crease` read and answer at a point, and what the crates above need of it. Assumes nothing.
use Prim.Native.Nat.{ℕ, ◌+◌, ◌-◌, ◌≤◌, ◌<◌}
use native.Mathlib.Omega.{arith}
use mathlib.Core.Path.{◌≡◌, refl, ap, subst}
use mathlib.Core.List.{List, [], ◌∷◌, map}
use lib.ListN.{length, get_or, drop}
use lib.Ieee.{Float}
use Rattle.mesh.specs.Mesh.{start_vert, as_halfedges, Halfedges}
use Rattle.mesh.specs.Sound.{Sound}
use Rattle.create_shared.specs.Verts.{vert_halfedge}
use Rattle.create_shared.proofs.Verts.{vert_halfedge_within}
use Rattle.create.specs.declared.creases.Crease.TheVariants.{NoCrease, OneEnd, Through, Meeting}
use Rattle.create.specs.declared.creases.Sums.{Sums}
use Rattle.create.specs.Edges.Smoothness.{pair_at}
use Rattle.create.specs.Creases.Creases.{through_of, sums_of, mean_of, crease_of, first_halfedge}
use Rattle.create.specs.Creases.Linked.{creases_at, pairs_at, Linked, first_crease, halfedge_of}
use Rattle.create.specs.declared.creases.linked_creases.LinkedCreases.{LinkedCreases}
use Rattle.create.proofs.CreasesLaws.Lent.{linked_all}
use Rattle.create.proofs.CreasesLaws.Creases.{All, all_tail, creases_in, creases_below}
use Rattle.create.proofs.CreasesLaws.Linked.{linked_some, linked_in, linked_first, crease_none, crease_end, crease_through, crease_meeting}

-- ---- the two functions

module _ (C : LinkedCreases) (v : ℕ) (h : v < length C.at.now) where
  abbrev H : Halfedges
  H = as_halfedges C.h.now

  abbrev S : List Float
  S = C.smooth.now

  abbrev L : List ℕ
  L = C.link.now

  abbrev n : ℕ
  n = C.n

  abbrev code : ℕ
  code = get_or C.at.now v 0

  here : Linked n L (vert_halfedge H n v) code (creases_at H S n v)
  here = linked_all C v h

  -- what `first_crease` gives
  pub first_is : halfedge_of n code ≡ first_crease H S n v
  first_is = linked_first L (vert_halfedge_within H n v) code (creases_at H S n v) here

  -- what `crease_at` gives
  pub point_none : code ≤ n → NoCrease ≡ crease_of (pairs_at H S n v)
  point_none k = crease_none L (vert_halfedge_within H n v) H S code (creases_at H S n v) here k

  module _ (first : ℕ) (some : n + 1 ≤ code) (k : first ≡ code - (n + 1)) where
    abbrev next : ℕ
    next = get_or L first 0

    pub first_below : first < n
    first_below = linked_in L (vert_halfedge_within H n v) (λ e. e < n) code first (creases_at H S n v) here (creases_below C.lists.sound S v) (omega arith)

    pub point_end : next ≤ n → OneEnd ≡ crease_of (pairs_at H S n v)
    point_end = crease_end L (vert_halfedge_within H n v) H S code first (creases_at H S n v) here (omega arith)

    module _ (second : ℕ) (more : n + 1 ≤ next) (j : second ≡ next - (n + 1)) where
      pub second_below : second < n
      second_below =
          linked_in L (vert_halfedge_within H n v) (λ e. e < n) next second (drop 1 (creases_at H S n v)) (linked_some L (vert_halfedge_within H n v) code first (creases_at H S n v) here (omega arith)).1
          (all_tail (λ e. e < n) (creases_at H S n v) (creases_below C.lists.sound S v)) (omega arith)

      pub point_through : get_or L second 0 ≤ n → through_of (pair_at H S first) (pair_at H S second) ≡ crease_of (pairs_at H S n v)
      point_through i = crease_through L (vert_halfedge_within H n v) H S code first (creases_at H S n v) here (omega arith) second (omega arith) i

      pub point_meeting : n < get_or L second 0 → (m : Float) (r : Sums) → m ≡ mean_of r → r ≡ sums_of (pairs_at H S n v) → Meeting m ≡ crease_of (pairs_at H S n v)
      point_meeting i m r e d = rw (e, d) (crease_meeting L (vert_halfedge_within H n v) H S code first (creases_at H S n v) here (omega arith) second (omega arith) i)

-- ---- which creases a point has, by what they are to it

module _ (H : Halfedges) (S : List Float) where
  none_is : (l : List ℕ) → crease_of (map (pair_at H S) l) ≡ NoCrease → l ≡ []
  unfolding crease_of through_of
  none_is [] e = refl
  none_is (a ∷ []) e = let z : ◌≡◌ {A = ℕ} 0 1 = cc in absurd (omega arith)
  none_is (a ∷ b ∷ []) e = let z : ◌≡◌ {A = ℕ} 0 1 = cc in absurd (omega arith)
  none_is (a ∷ b ∷ c ∷ l) e = let z : ◌≡◌ {A = ℕ} 0 1 = cc in absurd (omega arith)

  through_is : (l : List ℕ) (a b : ℕ) (x y : Float) → crease_of (map (pair_at H S) l) ≡ Through a b x y → l ≡ a ∷ b ∷ []
  unfolding crease_of through_of
  through_is [] a b x y e = let z : ◌≡◌ {A = ℕ} 0 1 = cc in absurd (omega arith)
  through_is (c ∷ []) a b x y e = let z : ◌≡◌ {A = ℕ} 0 1 = cc in absurd (omega arith)
  through_is (c ∷ d ∷ []) a b x y e = cc
  through_is (c ∷ d ∷ f ∷ l) a b x y e = let z : ◌≡◌ {A = ℕ} 0 1 = cc in absurd (omega arith)

  meeting_is : (l : List ℕ) (m : Float) → crease_of (map (pair_at H S) l) ≡ Meeting m → 0 < length l
  unfolding crease_of through_of
  meeting_is [] m e = let z : ◌≡◌ {A = ℕ} 0 1 = cc in absurd (omega arith)
  meeting_is (a ∷ l) m e = omega arith

first_of : (P : ℕ → Type 0) (l : List ℕ) (d : ℕ) → All P l → 0 < length l → P (get_or l 0 d)
first_of P [] d a h = absurd (omega arith)
first_of P (e ∷ l) d a h = a.0

module _ {H : Halfedges} {n p : ℕ} (s : Sound H n p) (S : List Float) (v : ℕ) where
  -- with no crease, its lowest halfedge
  pub none_first : crease_of (pairs_at H S n v) ≡ NoCrease → first_crease H S n v ≡ vert_halfedge H n v
  none_first e = ap (λ (l : List ℕ). get_or l 0 (vert_halfedge H n v)) (none_is H S (creases_at H S n v) e)

  -- at a meeting, that of the first pair
  pub meeting_first : (m : Float) → crease_of (pairs_at H S n v) ≡ Meeting m → first_crease H S n v ≡ first_halfedge (pairs_at H S n v)
  meeting_first m e = go (creases_at H S n v) (meeting_is H S (creases_at H S n v) m e)
    where
      go : (l : List ℕ) → 0 < length l → get_or l 0 (vert_halfedge H n v) ≡ first_halfedge (map (pair_at H S) l)
      go [] h = absurd (omega arith)
      go (a ∷ l) h = refl

  -- a crease through the point: both are halfedges that start there
  pub through_in : (a b : ℕ) (x y : Float) → crease_of (pairs_at H S n v) ≡ Through a b x y → (a < n) × (b < n) × (start_vert H a ≡ v) × (start_vert H b ≡ v)
  through_in a b x y e =
      let all : All (λ g. (g < n) × (start_vert H g ≡ v)) (a ∷ b ∷ []) = subst (All (λ g. (g < n) × (start_vert H g ≡ v))) (through_is H S (creases_at H S n v) a b x y e) (creases_in s S v) in
      (all.0.0, all.1.0.0, all.0.1, all.1.0.1)

  -- a meeting: the first is one too
  pub meeting_in : (m : Float) → crease_of (pairs_at H S n v) ≡ Meeting m → (first_crease H S n v < n) × (start_vert H (first_crease H S n v) ≡ v)
  meeting_in m e = first_of (λ g. (g < n) × (start_vert H g ≡ v)) (creases_at H S n v) (vert_halfedge H n v) (creases_in s S v) (meeting_is H S (creases_at H S n v) m e)

  -- it is a halfedge, or n
  pub first_within : first_crease H S n v ≤ n
  first_within = go (creases_at H S n v) (creases_below s S v)
    where
      go : (l : List ℕ) → All (λ g. g < n) l → get_or l 0 (vert_halfedge H n v) ≤ n
      go [] a = vert_halfedge_within H n v
      go (e ∷ l) a = omega (arith, a.0)
