-- Corners are one point exactly where they have one number. Assumes nothing.
use Prim.Native.Nat.{ℕ, ◌≤◌, ◌<◌}
use native.Mathlib.Omega.{arith}
use native.Mathlib.Nat.{eq-or-lt_of_le}
use mathlib.Core.Path.{◌≡◌, refl, sym, ap, ◌∙◌}
use mathlib.Core.List.{List}
use mathlib.Core.Logic.{◌⊎◌, inl, inr}
use mathlib.Core.Bool.{Bool, true, false, not, ◌&&◌}
use lib.Dec.{eqb}
use Rattle.std.proofs.lemmas.Bool.{and_parts, eqb-true, eq-eqb, not-false}
use Rattle.common.specs.Count.{count_below}
use Rattle.common.proofs.Count.{count_above, count_within, count_injective}
use Rattle.common.proofs.Lowest.{lowest_within, lowest_found, lowest_least, lowest_is}
use Rattle.stl.specs.File.File.{halfedge_count, corner_at}
use Rattle.stl.specs.File.Points.{same_corner, same_point, first_of, is_first, point_of, point_count, corner_of}
use Rattle.stl.specs.declared.file.Corner.{Corner}

pub corner_equal : (a b : Corner) → same_corner a b ≡ true → a ≡ b
unfolding same_corner
corner_equal a b e =
    let p = and_parts (eqb a.x b.x) (eqb a.y b.y && eqb a.z b.z) e in
    let q = and_parts (eqb a.y b.y) (eqb a.z b.z) p.1 in
    let x : a.x ≡ b.x = eqb-true _ _ p.0 in
    let y : a.y ≡ b.y = eqb-true _ _ q.0 in
    let z : a.z ≡ b.z = eqb-true _ _ q.1 in
    let w : ◌≡◌ {A = Corner} (record { x = a.x; y = a.y; z = a.z }) (record { x = b.x; y = b.y; z = b.z }) = rw (x, y, z) in
    w

pub corner_same : (a : Corner) → same_corner a a ≡ true
unfolding same_corner
corner_same a = rw (eq-eqb a.x a.x refl, eq-eqb a.y a.y refl, eq-eqb a.z a.z refl)

module _ (s : List ℕ) where
  pub same_equal : (i j : ℕ) → same_point s i j ≡ true → corner_at s i ≡ corner_at s j
  unfolding same_point
  same_equal i j e = corner_equal _ _ e

  pub equal_same : (i j : ℕ) → corner_at s i ≡ corner_at s j → same_point s i j ≡ true
  unfolding same_point
  equal_same i j e = rw e (corner_same (corner_at s j))

  pub first_within : (c : ℕ) → first_of s c ≤ c
  unfolding first_of
  first_within c = lowest_within (λ j. not (same_point s j c)) c

  pub first_least : (c k : ℕ) → corner_at s k ≡ corner_at s c → first_of s c ≤ k
  unfolding first_of
  first_least c k e = lowest_least (λ j. not (same_point s j c)) c k (rw (equal_same k c e))

  first_found : (c : ℕ) → first_of s c < c → not (same_point s (first_of s c) c) ≡ false
  unfolding first_of
  first_found c l = lowest_found (λ j. not (same_point s j c)) c l

  pub first_corner : (c : ℕ) → corner_at s (first_of s c) ≡ corner_at s c
  first_corner c = go (eq-or-lt_of_le (first_within c))
    where
      go : (first_of s c ≡ c) ⊎ (first_of s c < c) → corner_at s (first_of s c) ≡ corner_at s c
      go (inl e) = ap (corner_at s) e
      go (inr l) = same_equal (first_of s c) c (not-false _ (first_found c l))

  -- corners that are one point have the same first appearance
  pub same_first : (i j : ℕ) → corner_at s i ≡ corner_at s j → first_of s i ≡ first_of s j
  same_first i j e =
      let a = first_least j (first_of s i) (first_corner i ∙ e) in
      let b = first_least i (first_of s j) (first_corner j ∙ sym e) in
      omega arith

  pub first_first : (c : ℕ) → is_first s (first_of s c) ≡ true
  unfolding is_first
  first_first c = eq-eqb _ _ (same_first (first_of s c) c (first_corner c))

  pub same_number : (i j : ℕ) → corner_at s i ≡ corner_at s j → point_of s i ≡ point_of s j
  unfolding point_of
  same_number i j e = ap (count_below (is_first s)) (same_first i j e)

  pub number_same : (i j : ℕ) → point_of s i ≡ point_of s j → corner_at s i ≡ corner_at s j
  unfolding point_of
  number_same i j e =
      let f : first_of s i ≡ first_of s j = count_injective (is_first s) (first_of s i) (first_of s j) (first_first i) (first_first j) e in
      sym (first_corner i) ∙ ap (corner_at s) f ∙ first_corner j

  -- no more points appear before a corner than there are corners before it
  pub number_within : (c : ℕ) → point_of s c ≤ c
  unfolding point_of
  number_within c = omega (arith, count_within (is_first s) (first_of s c), first_within c)

  pub number_below : (c : ℕ) → c < halfedge_count s → point_of s c < point_count s
  unfolding point_of point_count
  number_below c h = let w = first_within c in count_above (is_first s) (first_of s c) (halfedge_count s) (first_first c) (omega arith)

  -- a first appearance is where its point's number leads
  pub corner_of_lem : (c : ℕ) → c < halfedge_count s → is_first s c ≡ true → corner_of s (count_below (is_first s) c) ≡ c
  unfolding corner_of
  corner_of_lem c h e = lowest_is (λ b. not (is_first s b && eqb (count_below (is_first s) b) (count_below (is_first s) c))) (halfedge_count s) c h (rw (e, eq-eqb (count_below (is_first s) c) (count_below (is_first s) c) refl)) (λ k l. go k l (is_first s k && eqb (count_below (is_first s) k) (count_below (is_first s) c)) refl)
    where
      go : (k : ℕ) → k < c → (t : Bool) → is_first s k && eqb (count_below (is_first s) k) (count_below (is_first s) c) ≡ t → not (is_first s k && eqb (count_below (is_first s) k) (count_below (is_first s) c)) ≡ true
      go k l true q =
          let p = and_parts (is_first s k) (eqb (count_below (is_first s) k) (count_below (is_first s) c)) q in
          let z = count_injective (is_first s) k c p.0 e (eqb-true _ _ p.1) in
          absurd (omega arith)
      go k l false q = rw q
