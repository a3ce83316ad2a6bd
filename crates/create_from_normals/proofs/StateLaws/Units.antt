-- The list of unit vectors holds that of each triangle's normal, whatever it held before; and with it a normal is compared with that of its triangle. Assumes nothing.
use Prim.Native.Nat.{ℕ, zero, suc, ◌+◌, ◌*◌, ◌/◌, ◌≤◌, ◌<◌}
use native.Mathlib.Decide.{ℕ_discrete}
use native.Mathlib.Omega.{arith}
use mathlib.Core.Path.{◌≡◌, sym, ap, ◌∙◌}
use mathlib.Core.List.{List}
use lib.ListN.{length, length-set}
use lib.Seq.{get_or-set_same, get_or-set_other, lt-length-set}
use lib.Ieee.{Float}
use Rattle.linalg.specs.declared.Vec3.{Vec3}
use Rattle.common.specs.Fold.{fold_to}
use Rattle.smoothing.specs.Directions.{safe_normalize, equal_units}
use Rattle.smoothing.specs.Lists.{point_at, put_point}
use Rattle.smoothing.proofs.Directions.{equal_by_units}
use Rattle.create_from_normals.specs.State.State.{has_face_normal}
use Rattle.create_from_normals.specs.State.Carried.{halfedge_normal}
use Rattle.create_from_normals.specs.State.Units.{UnitsIn, put_unit, put_units}

-- ---- three numbers

module _ (U : List Float) (t : ℕ) (v : Vec3) where
  stored_same : t * 3 + 3 ≤ length U → point_at (put_point U t v) t ≡ v
  unfolding point_at put_point
  stored_same h =
      let a : t * 3 < length U = omega arith in
      let b : t * 3 + 1 < length U = omega arith in
      let c : t * 3 + 2 < length U = omega arith in
      let ab : t * 3 ≡ t * 3 + 1 → ⊥ = λ q. omega arith in
      let ac : t * 3 ≡ t * 3 + 2 → ⊥ = λ q. omega arith in
      let bc : t * 3 + 1 ≡ t * 3 + 2 → ⊥ = λ q. omega arith in
      simp (get_or-set_same, get_or-set_other, lt-length-set)

  stored_other : (s : ℕ) → (s ≡ t → ⊥) → point_at (put_point U t v) s ≡ point_at U s
  unfolding point_at put_point
  stored_other s h =
      let aa : s * 3 ≡ t * 3 → ⊥ = λ q. h (omega arith) in
      let ab : s * 3 ≡ t * 3 + 1 → ⊥ = λ q. h (omega arith) in
      let ac : s * 3 ≡ t * 3 + 2 → ⊥ = λ q. h (omega arith) in
      let ba : s * 3 + 1 ≡ t * 3 → ⊥ = λ q. h (omega arith) in
      let bb : s * 3 + 1 ≡ t * 3 + 1 → ⊥ = λ q. h (omega arith) in
      let bc : s * 3 + 1 ≡ t * 3 + 2 → ⊥ = λ q. h (omega arith) in
      let ca : s * 3 + 2 ≡ t * 3 → ⊥ = λ q. h (omega arith) in
      let cb : s * 3 + 2 ≡ t * 3 + 1 → ⊥ = λ q. h (omega arith) in
      let cd : s * 3 + 2 ≡ t * 3 + 2 → ⊥ = λ q. h (omega arith) in
      simp (get_or-set_other, aa, ab, ac, ba, bb, bc, ca, cb, cd)

-- ---- the list after k triangles

module _ (A U : List Float) (n : ℕ) (whole : length U ≡ n) where
  record Units (W : List Float) (k : ℕ) : Type 0 where
    numbers : length W ≡ n
    passed : (t : ℕ) → t < k → point_at W t ≡ safe_normalize (point_at A t)

  one_more : (W : List Float) (k : ℕ) → k * 3 + 3 ≤ n → Units W k → Units (put_unit A W k) (suc k)
  unfolding put_unit put_point
  one_more W k h w =
      record {
        numbers = simp length-set w.numbers;
        passed = λ t l. go t l (ℕ_discrete t k);
      }
    where
      go : (t : ℕ) → t < suc k → Dec (t ≡ k) → point_at (put_point W k (safe_normalize (point_at A k))) t ≡ safe_normalize (point_at A t)
      go t l (yes q) = rw q (stored_same W k (safe_normalize (point_at A k)) (omega (arith, w.numbers)))
      go t l (no q) = stored_other W k (safe_normalize (point_at A k)) t q ∙ w.passed t (omega arith)

  filled : (k : ℕ) → k * 3 ≤ n → Units (fold_to (put_unit A) U k) k
  unfolding fold_to
  filled zero h = record { numbers = whole; passed = λ t l. absurd (omega arith) }
  filled (suc k) h = one_more (fold_to (put_unit A) U k) k (omega arith) (filled k (omega arith))

  -- whatever it held before
  pub units_in : {W : List Float} → W ≡ put_units A U n → UnitsIn A W n
  unfolding put_units
  units_in q =
      let w = filled (n / 3) (omega arith) in
      rw q (record { numbers = w.numbers; units = λ t h. w.passed t (omega arith) })

-- ---- the normal of a halfedge of triangle e / 3

pub flat_is : {A U : List Float} {n : ℕ} → UnitsIn A U n → (normal : ℕ → Vec3) (e : ℕ) → e / 3 * 3 + 3 ≤ n → has_face_normal A normal e ≡ (halfedge_normal U normal e).flat
unfolding has_face_normal halfedge_normal
flat_is {A} w normal e h = equal_by_units (normal e) (point_at A (e / 3)) ∙ ap (equal_units (safe_normalize (normal e))) (sym (w.units (e / 3) h))
