-- THE THEOREM: on a sound mesh making from normals leaves made weights only, and no flag of a missing normal. Assumes nothing.
use Prim.Native.Nat.{ℕ, ◌+◌, ◌*◌, ◌<◌}
use native.Mathlib.Nat.{le_refl}
use native.Mathlib.Omega.{arith}
use mathlib.Core.Path.{◌≡◌, refl, sym, ap, ◌∙◌}
use mathlib.Core.Logic.{◌⊎◌, inl, inr}
use mathlib.Core.Bool.{Bool, true, false, true≢false}
use mathlib.Core.List.{List}
use lib.ListN.{length, replicate, length-replicate, get_or-replicate}
use lib.IntN.{ℤ}
use lib.Ieee.{Float, nan, eq, neg, of_bits}
use Rattle.float.specs.Ops.{zero}
use Rattle.linalg.specs.declared.Vec3.{Vec3}
use Rattle.mesh.specs.Mesh.{Halfedges}
use Rattle.questions.specs.Questions.{sign_clear}
use Rattle.mesh.specs.Sound.{Sound}
use Rattle.common.proofs.Fold.{fold_keeps}
use Rattle.smoothing.specs.Lists.{weight_at}
use Rattle.smoothing.specs.Edges.{edge_vec, is_inside_quad}
use Rattle.smoothing.proofs.Tangents.{weight_of}
use Rattle.distribute.proofs.SpreadLaws.Own.{own}
use Rattle.distribute.proofs.SpreadLaws.Order.{order_free}
use Rattle.create_shared.specs.Makings.{tangents_of}
use Rattle.create_from_normals.specs.Steps.Steps.{inside_quad_weight, missing_normal_weight}
use Rattle.create_from_normals.specs.Walks.Walks.{normals_vert, normals_verts}
use Rattle.distribute.specs.Steps.FloatSteps.{float_steps}
use Rattle.distribute.proofs.WalksLaws.Lawful.{lawful}
use Rattle.distribute.specs.Distribute.{spread_tangents}
use Rattle.create_from_normals.specs.Whole.Core.{normal_tangents, create_tangents_from_normals}
use Rattle.create_from_normals.specs.Weights.{MadeWeight, inside, further, circular, WeightsOf}
use Rattle.create_from_normals.proofs.WeightsLaws.Circular.{circular_clear}
use Rattle.create_from_normals.proofs.WeightsLaws.Verts.{AllMade, vert_keeps}

-- ---- a made weight is no flag of a missing normal

zero_clear : sign_clear zero ≡ true
unfolding sign_clear of_bits
zero_clear = refl

missing_unclear : sign_clear missing_normal_weight ≡ false
unfolding sign_clear neg of_bits
missing_unclear = refl

flags_differ : inside_quad_weight ≡ missing_normal_weight → ⊥
unfolding eq neg of_bits
flags_differ q = true≢false (ap (λ (x : Float). eq x inside_quad_weight) q)

mark_or_clear : {H : Halfedges} {P : List Float} {e : ℕ} {w : Float} → MadeWeight H P e w → (w ≡ inside_quad_weight) ⊎ (sign_clear w ≡ true)
mark_or_clear (inside q) = inl q
mark_or_clear (further q) = inr (ap sign_clear q ∙ zero_clear)
mark_or_clear {H} {P} {e} (circular dir q) = inr (ap sign_clear q ∙ circular_clear dir (edge_vec H P e))

not_missing : {w : Float} → (w ≡ inside_quad_weight) ⊎ (sign_clear w ≡ true) → w ≡ missing_normal_weight → ⊥
not_missing (inl q) r = flags_differ (sym q ∙ r)
not_missing (inr q) r = true≢false (sym q ∙ ap sign_clear r ∙ missing_unclear)

-- ---- the loop over the points, and spreading

zero_weight : (n e : ℕ) → e < n → weight_at (replicate (n * 4) zero) e ≡ zero
unfolding weight_at
zero_weight n e h = get_or-replicate (n * 4) (e * 4 + 3) zero nan (omega arith)

module _ {H : Halfedges} {n p : ℕ} (S : Sound H n p) (R : List ℤ) (P N A : List Float) (normal : ℕ → Vec3) (O : List Float) (old : Bool) where
  before_spreading : AllMade H P n (normal_tangents H P N A R normal O old n p)
  unfolding normal_tangents normals_verts
  before_spreading =
      fold_keeps (normals_vert H P N A normal (is_inside_quad H R O old) n) (tangents_of (replicate (n * 4) zero) (replicate n 0)) (AllMade H P n) p
      (λ m v l a. vert_keeps S P N A normal (is_inside_quad H R O old) m v a)
      (record { whole = length-replicate (n * 4) zero; made = λ e l. further (zero_weight n e l) }) p (le_refl p)

  -- spreading keeps every weight
  spreading_keeps : (X : List ℕ) (T : List Float) → length T ≡ n * 4 → (e : ℕ) → weight_at (spread_tangents H P N X T n).tangents e ≡ weight_at T e
  spreading_keeps X T l e =
      sym (weight_of (spread_tangents H P N X T n).tangents e)
      ∙ (order_free (lawful S P N X) T l _ (own (float_steps H P N X n))).weights_kept e
      ∙ weight_of T e

  made_weight : (e : ℕ) → e < n → MadeWeight H P e (weight_at (create_tangents_from_normals H P N A R normal O old n p) e)
  unfolding create_tangents_from_normals
  made_weight e l =
      let m = normal_tangents H P N A R normal O old n p in
      rw (spreading_keeps m.fixed m.tangents before_spreading.whole e) (before_spreading.made e l)

pub weights : WeightsOf
weights H P N A R normal T old n p S =
    let made = made_weight S R P N A normal T old in
    record {
      made = made;
      mark_or_clear = λ e l. mark_or_clear (made e l);
      none_missing = λ e l. not_missing (mark_or_clear (made e l));
    }
