-- The claims of specs/OldNormals.antt, of a sound mesh: making from normals asks of a halfedge's normal only what it is on the n halfedges. Assumes nothing.
use Prim.Native.Nat.{ℕ, ◌<◌}
use mathlib.Core.Path.{◌≡◌, refl, ap}
use mathlib.Core.List.{List}
use mathlib.Core.Bool.{Bool}
use lib.IntN.{ℤ}
use lib.Ieee.{Float}
use Rattle.linalg.specs.declared.Vec3.{Vec3}
use Rattle.mesh.specs.Mesh.{Halfedges, as_halfedges}
use Rattle.mesh.specs.Sound.{Sound}
use Rattle.smoothing.specs.Edges.{is_inside_quad}
use Rattle.create_shared.specs.Makings.{Tangents}
use Rattle.distribute.specs.Distribute.{spread_tangents}
use Rattle.create_from_normals.specs.State.State.{get_normal}
use Rattle.create_from_normals.proofs.WalksLaws.Same.{verts_same, verts_count_same}
use Rattle.create_from_normals.specs.Whole.Core.{no_tangents, normal_tangents, create_tangents_from_normals, from_normals_directionless}
use Rattle.create_from_normals.specs.OldNormals.{OldTangents, OldCount}

-- two functions that give the same normals of the n halfedges
module _ {H : Halfedges} {n j : ℕ} (S : Sound H n j) (P N A : List Float) (R : List ℤ) (T : List Float) (old : Bool) (a b : ℕ → Vec3) (equal : (e : ℕ) → e < n → a e ≡ b e) (p : ℕ) where
  made_same : create_tangents_from_normals H P N A R a T old n p ≡ create_tangents_from_normals H P N A R b T old n p
  unfolding create_tangents_from_normals normal_tangents
  made_same =
      let inside = is_inside_quad H R T old in
      ap (λ (m : Tangents). (spread_tangents H P N m.fixed m.tangents n).tangents) (verts_same S P N A inside inside (λ e h. refl) a b equal p (no_tangents n))

  count_same : from_normals_directionless H P N A R a T old n p ≡ from_normals_directionless H P N A R b T old n p
  unfolding from_normals_directionless
  count_same =
      let inside = is_inside_quad H R T old in verts_count_same S P N A inside inside (λ e h. refl) a b equal p (no_tangents n)

module _ (list : List ℤ) {n j : ℕ} (S : Sound (as_halfedges list) n j) (P N A : List Float) (R : List ℤ) (G T : List Float) (old : Bool) (p : ℕ) where
  pub old_tangents : OldTangents list P N A R G T old n p (create_tangents_from_normals (as_halfedges list) P N A R (get_normal list G) T old n p)
  old_tangents O holds = made_same S P N A R T old _ _ holds p

  pub old_count : OldCount list P N A R G T old n p (from_normals_directionless (as_halfedges list) P N A R (get_normal list G) T old n p)
  old_count O holds = count_same S P N A R T old _ _ holds p
