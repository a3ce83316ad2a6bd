-- What the loop of a call leaves: the first points, and behind them the list as lent. Assumes nothing.
use Prim.Native.Nat.{ℕ, zero, suc, ◌+◌, ◌*◌, ◌≤◌}
use native.Mathlib.Numerals.{add-one}
use native.Mathlib.Omega.{arith}
use mathlib.Core.Path.{◌≡◌, refl, sym, ap, ◌∙◌}
use mathlib.Core.List.{List, [], ◌∷◌, ◌++◌}
use lib.ListN.{length, drop, length-append}
use lib.Ieee.{Float}
use Rattle.std.specs.Prelude.{flat_map}
use Rattle.std.specs.List.{range_with_len}
use Rattle.std.proofs.lemmas.List.{drop_all, append-nil}
use Rattle.std.proofs.lemmas.Grind.{flat_map-append}
use Rattle.common.proofs.Front.{front_three, range_next}
use Rattle.linalg.specs.declared.Vec4.{Vec4}
use Rattle.smoothing.specs.Lists.{put_point}
use Rattle.curve.specs.Curve.{position_at, parameter_at, numbers_at, points_of}

module _ (p0 p1 p2 p3 : Vec4) (count : ℕ) where
  -- the first k points
  abbrev pub first_points : ℕ → List Float
  first_points k = flat_map (numbers_at p0 p1 p2 p3 count) (range_with_len 0 k)

  pub points_next : (k : ℕ) → first_points (suc k) ≡ first_points k ++ numbers_at p0 p1 p2 p3 count k
  points_next k =
      ap (flat_map (numbers_at p0 p1 p2 p3 count)) (range_next k)
      ∙ flat_map-append (numbers_at p0 p1 p2 p3 count) (range_with_len 0 k) (k ∷ [])

  points_length : (k : ℕ) → length (first_points k) ≡ k * 3
  points_length zero = refl
  points_length (suc k) =
      ap length (points_next k)
      ∙ length-append (first_points k) (numbers_at p0 p1 p2 p3 count k)
      ∙ omega (arith, points_length k)

  -- one turn
  pub points_turn : (xs ys zs : List Float) (k : ℕ) → xs ≡ first_points k ++ drop (k * 3) zs → k * 3 + 3 ≤ length zs → ys ≡ put_point xs k (position_at p0 p1 p2 p3 (parameter_at k count)) → ys ≡ first_points (k + 1) ++ drop ((k + 1) * 3) zs
  unfolding put_point
  points_turn xs ys zs k e h q =
      let after : k * 3 + 3 ≡ (k + 1) * 3 = omega arith in
      q
      ∙ rw e (front_three (first_points k) zs (k * 3) (points_length k) _ _ _ h)
      ∙ ap (λ (j : ℕ). (first_points k ++ numbers_at p0 p1 p2 p3 count k) ++ drop j zs) after
      ∙ rw (add-one k) (ap (λ (l : List Float). l ++ drop (suc k * 3) zs) (sym (points_next k)))

  -- a list with no further place
  pub points_whole : (xs zs : List Float) → length zs ≡ count * 3 → xs ≡ first_points count ++ drop (count * 3) zs → xs ≡ points_of p0 p1 p2 p3 count
  points_whole xs zs h e =
      e ∙ ap (λ (l : List Float). first_points count ++ l) (drop_all (count * 3) zs (omega (arith, h))) ∙ append-nil (first_points count)
