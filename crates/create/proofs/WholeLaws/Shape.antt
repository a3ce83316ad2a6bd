-- What `shape_tangents` leaves and counts, from what each of its calls does. Assumes nothing.
use Prim.Native.Nat.{ℕ, ◌+◌, ◌*◌, ◌≤◌}
use native.Mathlib.Omega.{arith}
use mathlib.Core.Path.{◌≡◌}
use mathlib.Core.List.{List}
use mathlib.Core.Bool.{Bool}
use lib.ListN.{replicate}
use lib.IntN.{ℤ}
use lib.Ieee.{Float}
use Rattle.common.proofs.Count.{count_within}
use Rattle.mesh.specs.Mesh.{Halfedges}
use Rattle.mesh.specs.Sound.{Sound}
use Rattle.smoothing.specs.Edges.{is_inside_quad}
use Rattle.smoothing.specs.Faces.{flat_faces, is_flat}
use Rattle.create.specs.Edges.Smoothness.{smoothness}
use Rattle.create.specs.Creases.Linked.{pairs_at}
use Rattle.create.specs.Initial.First.{first_tangents, first_directionless, firsts_directionless}
use Rattle.create_shared.specs.Makings.{tangents_of}
use Rattle.create.specs.Shapes.Shapes.{shape_verts, creases_directionless}
use Rattle.create.proofs.ShapesLaws.Bound.{creases_within}
use Rattle.create.specs.Whole.Shape.{shaped_tangents}
use Rattle.create.specs.Whole.Lent.{pairs_of}
use Rattle.create.specs.Whole.Core.{directionless_with}

-- the flags `flat`, S, T and X as the calls leave them, where S₀ held the smoothness of the caller's entries
pub shaped_is : (H : Halfedges) (R : List ℤ) (P N A : List Float) (inside : ℕ → Bool) (S₀ : List Float) (n p : ℕ) (flat : ℕ → Bool) (S T : List Float) (X : List ℕ) (m k : ℕ)
    → flat ≡ is_flat (flat_faces H R n) → S ≡ smoothness H R flat S₀ n → T ≡ first_tangents H P N A R inside n → X ≡ replicate m 0 → m ≡ n → k ≡ p
    → shape_verts H P flat n (pairs_at H S n) k (tangents_of T X) ≡ shaped_tangents H P N A R inside (pairs_of H R S₀ n) n p
unfolding shaped_tangents
shaped_is H R P N A inside S₀ n p flat S T X m k f s t x q r = rw (s, t, x, q, r) (rw f)

-- the counts a and b of two of its calls, where T are the tangents as lent
pub counted_is : (H : Halfedges) (R : List ℤ) (P T : List Float) (old : Bool) (S₀ : List Float) (n p : ℕ) (flat : ℕ → Bool) (S : List Float) (k a b : ℕ)
    → flat ≡ is_flat (flat_faces H R n) → S ≡ smoothness H R flat S₀ n → a ≡ firsts_directionless H P (is_inside_quad H R T old) n → b ≡ creases_directionless H P (pairs_at H S n) k → k ≡ p
    → a + b ≡ directionless_with H P R (pairs_of H R S₀ n) T old n p
unfolding directionless_with
counted_is H R P T old S₀ n p flat S k a b f s x y r = rw (x, y, s, r) (rw f)

-- each of the two is at most n; M holds the smoothness of the caller's entries
pub with_within : {H : Halfedges} {n p : ℕ} → Sound H n p → (R : List ℤ) (M P T : List Float) (old : Bool) → directionless_with H P R (pairs_of H R M n) T old n p ≤ 2 * n
unfolding directionless_with
with_within {H} {n} {p} sound R M P T old =
    omega (arith, count_within (first_directionless H P (is_inside_quad H R T old)) n, creases_within sound P (smoothness H R (is_flat (flat_faces H R n)) M n))
