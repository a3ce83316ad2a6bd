-- Newton's step for the reciprocal square root 1 / √A, on natural numbers: from r, with z = r * r * A / M near 1, to r * (3 - z) / 2, rounded down, in units of 1 / k.
-- The result is never above the exact value, since z * (3 - z) ^ 2 ≤ 4, and is below it by the square of z's error and by what is rounded off. Assumes nothing.
use mathlib.Core.Path.{◌≡◌, subst}
use mathlib.Core.Logic.{◌⊎◌, inl, inr, ⊎_elim}
use Prim.Native.Nat.{ℕ, zero, ◌+◌, ◌-◌, ◌*◌, ◌≤◌, ◌<◌}
use native.Mathlib.Nat.{le_trans, mul-le-mul_left, mul-le-mul_right, mul-lt-mul_of_pos_right, mul-pos, le_of_mul-le-mul_left, lt_of_mul-lt-mul_left, eq-zero-or-pos}
use native.Mathlib.Omega.{arith}
use Rattle.sqrt.proofs.Squares.{sq_le, sq_lt}

pub le_or_lt : (a b : ℕ) → (a ≤ b) ⊎ (b < a)
le_or_lt a b = ⊎_elim (λ e. inl (omega arith)) (λ p. inr (omega arith)) (eq-zero-or-pos (a - b))

-- ---- z * (3 - z) ^ 2 against 4, where z is Z / M and 3 - z is X / M

pub record Cube (M Z X e : ℕ) : Type 0 where
  pub at_most : Z * (X * X) ≤ 4 * (M * (M * M))
  pub near : 4 * (M * (M * M)) ≤ Z * (X * X) + 4 * (M * (e * e))

cube_below : (Z f : ℕ) → Cube (Z + f) Z (2 * Z + 3 * f) f
cube_below Z f = record { at_most = omega arith; near = omega arith }

cube_above : (k f : ℕ) → Cube (k + f) (k + 2 * f) (2 * k + f) f
cube_above k f = record { at_most = omega arith; near = omega arith }

-- a larger e says less
cube_wider : {M Z X f : ℕ} (e : ℕ) → f ≤ e → Cube M Z X f → Cube M Z X e
cube_wider {M} e l c = record { at_most = c.at_most; near = le_trans c.near (let h = mul-le-mul_left M (sq_le l) in omega arith) }

pub cube : (M Z X e : ℕ) → X + Z ≡ 3 * M → Z ≤ M + e → M ≤ Z + e → e ≤ M → Cube M Z X e
cube M Z X e s above below small = ⊎_elim under over (le_or_lt Z M)
  where
    under : Z ≤ M → Cube M Z X e
    under l =
        let m : Z + (M - Z) ≡ M = omega arith in
        let x : 2 * Z + 3 * (M - Z) ≡ X = omega arith in
        subst (λ (x : ℕ). Cube M Z x e) x (subst (λ (m : ℕ). Cube m Z (2 * Z + 3 * (M - Z)) e) m (cube_wider e (omega arith) (cube_below Z (M - Z))))

    over : M < Z → Cube M Z X e
    over l =
        let f = Z - M in
        let k = M - f in
        let m : k + f ≡ M = omega arith in
        let z : k + 2 * f ≡ Z = omega arith in
        let x : 2 * k + f ≡ X = omega arith in
        let c : Cube (k + f) (k + 2 * f) (2 * k + f) e = cube_wider e (omega arith) (cube_above k f) in
        subst (λ (x : ℕ). Cube M Z x e) x (subst (λ (z : ℕ). Cube M z (2 * k + f) e) z (subst (λ (m : ℕ). Cube m (k + 2 * f) (2 * k + f) e) m c))

-- ---- the step

module _ (k M A r X e r' : ℕ) (c : Cube M (r * r * A) X e) where
  -- below r * (3 - z) / 2: the result is below k / √A
  pub newton_below : zero < A → 2 * M * r' < k * (r * X) → r' * r' * A < k * k * M
  newton_below p h =
      let a : 2 * M * r' * (2 * M * r') * A < k * (r * X) * (k * (r * X)) * A = mul-lt-mul_of_pos_right (sq_lt h) p in
      let b : k * k * (r * r * A * (X * X)) ≤ k * k * (4 * (M * (M * M))) = mul-le-mul_left (k * k) c.at_most in
      let e1 : 2 * M * r' * (2 * M * r') * A ≡ 4 * (M * M) * (r' * r' * A) = omega arith in
      let e2 : k * (r * X) * (k * (r * X)) * A ≡ k * k * (r * r * A * (X * X)) = omega arith in
      let e3 : k * k * (4 * (M * (M * M))) ≡ 4 * (M * M) * (k * k * M) = omega arith in
      lt_of_mul-lt-mul_left (4 * (M * M)) (omega arith)

  -- at most w below it: what is missing of the exact value has three parts
  pub newton_near : (w f g h : ℕ) → zero < M → k * (r * X) ≤ 2 * M * r' + w → k * k * (e * e) ≤ M * f → w * (r' * A) ≤ M * g → w * w * A ≤ 4 * (M * M) * h → k * k * M ≤ r' * r' * A + (f + g + h)
  newton_near w f g h p l lf lg lh =
      let a : k * (r * X) * (k * (r * X)) * A ≤ (2 * M * r' + w) * (2 * M * r' + w) * A = mul-le-mul_right A (sq_le l) in
      let b : k * k * (4 * (M * (M * M))) ≤ k * k * (r * r * A * (X * X) + 4 * (M * (e * e))) = mul-le-mul_left (k * k) c.near in
      let e1 : (2 * M * r' + w) * (2 * M * r' + w) * A ≡ 4 * (M * M) * (r' * r' * A) + 4 * (M * (w * (r' * A))) + w * w * A = omega arith in
      let e2 : k * (r * X) * (k * (r * X)) * A ≡ k * k * (r * r * A * (X * X)) = omega arith in
      let e3 : k * k * (4 * (M * (M * M))) ≡ 4 * (M * M) * (k * k * M) = omega arith in
      let e4 : k * k * (r * r * A * (X * X) + 4 * (M * (e * e))) ≡ k * k * (r * r * A * (X * X)) + 4 * (M * (k * k * (e * e))) = omega arith in
      let f1 : 4 * (M * (k * k * (e * e))) ≤ 4 * (M * (M * f)) = mul-le-mul_left 4 (mul-le-mul_left M lf) in
      let g1 : 4 * (M * (w * (r' * A))) ≤ 4 * (M * (M * g)) = mul-le-mul_left 4 (mul-le-mul_left M lg) in
      let s : 4 * (M * M) * (r' * r' * A + (f + g + h)) ≡ 4 * (M * M) * (r' * r' * A) + 4 * (M * (M * f)) + 4 * (M * (M * g)) + 4 * (M * M) * h = omega arith in
      le_of_mul-le-mul_left {k = 4 * (M * M)} (omega arith) (mul-pos (omega arith) (mul-pos p p))
