-- Laws of the mark check: that its loop over the triangles finds what the fold over the halfedges does. Assumes nothing.
use Prim.Native.Nat.{ℕ, zero, suc, ◌+◌, ◌-◌, ◌*◌, ◌/◌, ◌%◌, ◌<◌}
use native.Mathlib.Omega.{arith}
use native.Mathlib.Decide.{ℕ_discrete}
use mathlib.Core.Path.{◌≡◌, refl, sym, ◌∙◌}
use mathlib.Core.Logic.{⊎_elim}
use mathlib.Core.List.{List}
use mathlib.Core.Bool.{Bool, true, false, not, ◌&&◌, beq}
use borrow.Author.Tests.{not-true}
use lib.Ieee.{Float}
use Rattle.mesh.specs.Mesh.{paired_halfedge, next_halfedge, prev_halfedge, Halfedges}
use Rattle.common.specs.Fold.{fold_to}
use Rattle.mesh.specs.Sound.{Sound}
use Rattle.std.specs.List.{list_all, range_with_len}
use Rattle.std.proofs.lemmas.Bool.{and_parts, both_ways}
use Rattle.common.proofs.Fold.{fold_next}
use Rattle.mesh.proofs.Halfedges.{next_cases, prev_is}
use Rattle.smoothing.specs.Lists.{is_marked_inside_quad}
use Rattle.validate.specs.Validate.{no_marked_neighbor, valid_at, valid_so_far}
use Rattle.validate.specs.Marks.{mark_valid, triangle_valid}

-- ---- the fold over the halfedges below n

module _ (H : Halfedges) (T : List Float) where
  -- all pass
  all_valid : (n : ℕ) → ((k : ℕ) → k < n → valid_at H T k ≡ true) → fold_to (valid_so_far H T) true n ≡ true
  unfolding fold_to
  all_valid zero f = refl
  all_valid (suc n) f = rw (all_valid n (λ k h. f k (omega arith)), f n (omega arith))

  -- halfedge e does not: nor do all below any n above it
  invalid : (e n : ℕ) → e < n → valid_at H T e ≡ false → fold_to (valid_so_far H T) true n ≡ false
  invalid e n h v = rw (let z : n ≡ e + 1 + (n - (e + 1)) = omega arith in z) (go (n - (e + 1)))
    where
      here : (b : Bool) → b && valid_at H T e ≡ false
      here true = v
      here false = refl

      go : (k : ℕ) → fold_to (valid_so_far H T) true (e + 1 + k) ≡ false
      go zero = rw (let z : e + 1 + 0 ≡ e + 1 = omega arith in z) (rw fold_next (here (fold_to (valid_so_far H T) true e)))
      go (suc k) = rw (let z : e + 1 + suc k ≡ e + 1 + k + 1 = omega arith in z) (rw (fold_next, go k))

  -- ---- one halfedge

  -- halfedge k, if it is marked, has no marked neighbour and a marked pair
  abbrev Passed : ℕ → Type 0
  Passed k = is_marked_inside_quad T k ≡ true → (no_marked_neighbor T k ≡ true) × (is_marked_inside_quad T (paired_halfedge H k) ≡ true)

  unmarked : (k : ℕ) → is_marked_inside_quad T k ≡ false → Passed k
  unmarked k q m = absurd (both_ways _ q m)

  -- where all do, each halfedge passes: a marked one since its pair has no marked neighbour either, another one since its pair, were it marked, would have a marked pair
  passed_valid : {n p : ℕ} → Sound H n p → ((k : ℕ) → k < n → Passed k) → (k : ℕ) → k < n → valid_at H T k ≡ true
  unfolding valid_at
  passed_valid s f k h = go (is_marked_inside_quad T k) refl (is_marked_inside_quad T (paired_halfedge H k)) refl
    where
      there : Passed (paired_halfedge H k)
      there = f (paired_halfedge H k) (s.paired_below k h)

      go : (a : Bool) → is_marked_inside_quad T k ≡ a → (b : Bool) → is_marked_inside_quad T (paired_halfedge H k) ≡ b → valid_at H T k ≡ true
      go true q b r = let w = f k h q in rw (q, w.1, w.0, (there w.1).0)
      go false q false r = rw (q, r)
      go false q true r = let back : is_marked_inside_quad T k ≡ true = rw (← s.paired_back k h) (there r).1 in absurd (both_ways _ q back)

  -- ---- one triangle, of which k is a halfedge and a and b are the next and the previous one

  module _ (k a b : ℕ) (on : next_halfedge k ≡ a) (back : prev_halfedge k ≡ b) where
    module _ {x y : Bool} (next : is_marked_inside_quad T a ≡ x) (prev : is_marked_inside_quad T b ≡ y) where
      marked_passed : mark_valid H T k x y ≡ true → Passed k × Passed a × Passed b
      unfolding no_marked_neighbor
      marked_passed q =
          let r = and_parts _ (is_marked_inside_quad T (paired_halfedge H k)) q in
          let s = and_parts (not x) (not y) r.0 in
          (λ m. (rw (on, back, next, prev) r.0, r.1), unmarked a (next ∙ not-true x s.0), unmarked b (prev ∙ not-true y s.1))

      marked_invalid : is_marked_inside_quad T k ≡ true → mark_valid H T k x y ≡ false → valid_at H T k ≡ false
      unfolding valid_at no_marked_neighbor
      marked_invalid m q = rw (m, on, back, next, prev) (go (not x && not y) (is_marked_inside_quad T (paired_halfedge H k)) _ q)
        where
          go : (v w z : Bool) → v && w ≡ false → beq true w && (v && z) ≡ false
          go true true z q = absurd (both_ways _ q refl)
          go true false z q = refl
          go false true z q = refl
          go false false z q = refl

  -- the triangle of e, e + 1 and e + 2
  module _ (e : ℕ) (d : e % 3 ≡ 0) where
    next_first : next_halfedge e ≡ e + 1
    next_first = ⊎_elim (λ w. omega (arith, w.0)) (λ w. w.1) (next_cases e)

    next_second : next_halfedge (e + 1) ≡ e + 2
    next_second = ⊎_elim (λ w. omega (arith, w.0)) (λ w. omega (arith, w.1)) (next_cases (e + 1))

    next_third : next_halfedge (e + 2) ≡ e
    next_third = ⊎_elim (λ w. omega (arith, w.1)) (λ w. absurd (w.0 (omega arith))) (next_cases (e + 2))

    prev_first : prev_halfedge e ≡ e + 2
    prev_first = omega (arith, prev_is e)

    prev_second : prev_halfedge (e + 1) ≡ e
    prev_second = omega (arith, prev_is (e + 1))

    prev_third : prev_halfedge (e + 2) ≡ e + 1
    prev_third = omega (arith, prev_is (e + 2))

    triangle_passed : triangle_valid H T e ≡ true → Passed e × Passed (e + 1) × Passed (e + 2)
    unfolding triangle_valid
    triangle_passed v = go (is_marked_inside_quad T e) refl (is_marked_inside_quad T (e + 1)) refl (is_marked_inside_quad T (e + 2)) refl
      where
        go : (a : Bool) → is_marked_inside_quad T e ≡ a → (b : Bool) → is_marked_inside_quad T (e + 1) ≡ b → (c : Bool) → is_marked_inside_quad T (e + 2) ≡ c → Passed e × Passed (e + 1) × Passed (e + 2)
        go true q b r c u = marked_passed e (e + 1) (e + 2) next_first prev_first refl refl (rw q at v)
        go false q true r c u = let w = marked_passed (e + 1) (e + 2) e next_second prev_second refl q (rw (q, r) at v) in (w.2, w.0, w.1)
        go false q false r true u = let w = marked_passed (e + 2) e (e + 1) next_third prev_third q r (rw (q, r, u) at v) in (w.1, w.2, w.0)
        go false q false r false u = (unmarked e q, unmarked (e + 1) r, unmarked (e + 2) u)

    triangle_invalid : (n : ℕ) → e + 2 < n → triangle_valid H T e ≡ false → fold_to (valid_so_far H T) true n ≡ false
    unfolding triangle_valid
    triangle_invalid n h v = go (is_marked_inside_quad T e) refl (is_marked_inside_quad T (e + 1)) refl (is_marked_inside_quad T (e + 2)) refl
      where
        go : (a : Bool) → is_marked_inside_quad T e ≡ a → (b : Bool) → is_marked_inside_quad T (e + 1) ≡ b → (c : Bool) → is_marked_inside_quad T (e + 2) ≡ c → fold_to (valid_so_far H T) true n ≡ false
        go true q b r c u = invalid e n (omega arith) (marked_invalid e (e + 1) (e + 2) next_first prev_first refl refl q (rw q at v))
        go false q true r c u = invalid (e + 1) n (omega arith) (marked_invalid (e + 1) (e + 2) e next_second prev_second refl q r (rw (q, r) at v))
        go false q false r true u = invalid (e + 2) n h (marked_invalid (e + 2) e (e + 1) next_third prev_third q r u (rw (q, r, u) at v))
        go false q false r false u = absurd (both_ways _ (rw (q, r, u) at v) refl)

  -- ---- the loop over the triangles below e

  abbrev AllPassed : ℕ → Type 0
  AllPassed e = (k : ℕ) → k < e → Passed k

  three_passed : (e : ℕ) → AllPassed e → Passed e × Passed (e + 1) × Passed (e + 2) → AllPassed (e + 3)
  three_passed e f w k h = go (ℕ_discrete k e) (ℕ_discrete k (e + 1)) (ℕ_discrete k (e + 2))
    where
      go : Dec (k ≡ e) → Dec (k ≡ e + 1) → Dec (k ≡ e + 2) → Passed k
      go (yes q) b c = rw q w.0
      go (no q) (yes r) c = rw r w.1
      go (no q) (no r) (yes u) = rw u w.2
      go (no q) (no r) (no u) = f k (omega arith)

  all_passed : {n p : ℕ} → Sound H n p → AllPassed n → fold_to (valid_so_far H T) true n ≡ true
  all_passed {n} s f = all_valid n (passed_valid s f)

  -- the k triangles from i on, where those before it passed
  module _ {n p : ℕ} (s : Sound H n p) where
    triangles_from : (k i : ℕ) → (k + i) * 3 ≡ n → AllPassed (i * 3) → list_all (λ (t : ℕ). triangle_valid H T (t * 3)) (range_with_len i k) ≡ fold_to (valid_so_far H T) true n
    triangles_from zero i q f = sym (all_passed s (let z : i * 3 ≡ n = omega arith in rw (← z) f))
    triangles_from (suc k) i q f = go (triangle_valid H T (i * 3)) refl (triangles_from k (i + 1) (omega arith))
      where
        whole : i * 3 % 3 ≡ 0
        whole = omega arith

        go : (b : Bool) → triangle_valid H T (i * 3) ≡ b → (AllPassed ((i + 1) * 3) → list_all (λ (t : ℕ). triangle_valid H T (t * 3)) (range_with_len (i + 1) k) ≡ fold_to (valid_so_far H T) true n) → list_all (λ (t : ℕ). triangle_valid H T (t * 3)) (range_with_len i (suc k)) ≡ fold_to (valid_so_far H T) true n
        go true e ih = rw e (ih (let z : (i + 1) * 3 ≡ i * 3 + 3 = omega arith in rw z (three_passed (i * 3) f (triangle_passed (i * 3) whole e))))
        go false e ih = rw e (sym (triangle_invalid (i * 3) whole n (omega arith) e))

    pub triangles_are : list_all (λ (t : ℕ). triangle_valid H T (t * 3)) (range_with_len 0 (n / 3)) ≡ fold_to (valid_so_far H T) true n
    triangles_are = triangles_from (n / 3) 0 (omega (arith, s.triangles)) (λ k h. absurd (omega arith))
