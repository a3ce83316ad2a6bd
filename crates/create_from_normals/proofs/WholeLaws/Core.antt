-- What `make_tangents` leaves and counts, from what its calls leave and count; and how much that can be. Assumes nothing.
use Prim.Native.Nat.{ℕ, ◌*◌, ◌≤◌, ◌<◌}
use mathlib.Core.Path.{◌≡◌, refl, ap, ◌∙◌}
use mathlib.Core.List.{List}
use mathlib.Core.Bool.{Bool}
use lib.ListN.{replicate}
use lib.IntN.{ℤ}
use lib.Ieee.{Float}
use Rattle.float.specs.Ops.{zero}
use Rattle.linalg.specs.declared.Vec3.{Vec3}
use Rattle.mesh.specs.Mesh.{Halfedges}
use Rattle.mesh.specs.Sound.{Sound}
use Rattle.smoothing.specs.Edges.{is_inside_quad}
use Rattle.create_shared.specs.Makings.{Tangents, tangents_of}
use Rattle.create_from_normals.specs.Steps.Carried.{is_inside}
use Rattle.create_from_normals.specs.Walks.Walks.{normals_verts, normals_verts_directionless}
use Rattle.create_from_normals.proofs.WalksLaws.Same.{verts_same, verts_count_same}
use Rattle.create_from_normals.proofs.WalksLaws.Bound.{verts_within}
use Rattle.distribute.specs.Distribute.{spread_tangents}
use Rattle.create_from_normals.specs.Whole.Core.{no_tangents, normal_tangents, create_tangents_from_normals, from_normals_directionless}
use Rattle.create_from_normals.specs.Whole.Flags.{inside_quads}
use Rattle.create_from_normals.proofs.WholeLaws.Flags.{inside_is}

module _ {H : Halfedges} {n j : ℕ} (s : Sound H n j) (R : List ℤ) (P N A : List Float) (normal : ℕ → Vec3) (O : List Float) (old : Bool) where
  -- the loop over the points finds the flags Q, the tangents T₀ and the fixed flags X₀
  module _ {Q X₀ : List ℕ} {T₀ : List Float} (q : Q ≡ inside_quads H R O old n) (t : T₀ ≡ replicate (n * 4) zero) (x : X₀ ≡ replicate n 0) where
    inside_same : (e : ℕ) → e < n → is_inside Q e ≡ is_inside_quad H R O old e
    inside_same e h = rw q (inside_is H R O old n e h)

    -- the tangents T and the fixed flags X that it leaves
    pub made : (p : ℕ) (T : List Float) (X : List ℕ) → tangents_of T X ≡ normals_verts H P N A normal (is_inside Q) n p (tangents_of T₀ X₀) → tangents_of T X ≡ normal_tangents H P N A R normal O old n p
    unfolding normal_tangents
    made p T X e =
        e ∙ verts_same s P N A (is_inside Q) (is_inside_quad H R O old) inside_same normal normal (λ i h. refl) p (tangents_of T₀ X₀) ∙ rw (t, x)

    -- what it counts
    pub made_count : (p : ℕ) {c : ℕ} → c ≡ normals_verts_directionless H P N A normal (is_inside Q) n p (tangents_of T₀ X₀) → c ≡ from_normals_directionless H P N A R normal O old n p
    unfolding from_normals_directionless
    made_count p e =
        e ∙ verts_count_same s P N A (is_inside Q) (is_inside_quad H R O old) inside_same normal normal (λ i h. refl) p (tangents_of T₀ X₀) ∙ rw (t, x)

  -- the count is at most three for each halfedge
  pub from_normals_within : (p : ℕ) → from_normals_directionless H P N A R normal O old n p ≤ 3 * n
  unfolding from_normals_directionless
  from_normals_within p = verts_within s P N A normal (is_inside_quad H R O old) p (no_tangents n)

-- the tangents U, where T and X are the tangents and the fixed flags before spreading
pub created : (H : Halfedges) (R : List ℤ) (P N A : List Float) (normal : ℕ → Vec3) (O : List Float) (old : Bool) (n p : ℕ) (T : List Float) (X : List ℕ) (U : List Float)
    → tangents_of T X ≡ normal_tangents H P N A R normal O old n p → U ≡ (spread_tangents H P N X T n).tangents
    → U ≡ create_tangents_from_normals H P N A R normal O old n p
unfolding create_tangents_from_normals
created H R P N A normal O old n p T X U e u =
    u ∙ ap (λ (m : Tangents). (spread_tangents H P N m.fixed m.tangents n).tangents) e
