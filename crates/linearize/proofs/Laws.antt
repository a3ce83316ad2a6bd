-- Laws of straightening: an end that is not flat is left alone; so the length is kept, and every tangent that is not flat, a mark among them. Assumes nothing.
use Prim.Native.Nat.{ℕ, ◌*◌}
use native.Mathlib.Omega.{arith}
use mathlib.Core.Path.{◌≡◌, refl, ◌∙◌}
use mathlib.Core.List.{List}
use mathlib.Core.Bool.{Bool, true, false, cond}
use borrow.Author.Tests.{eqb-true, ne_eqb}
use lib.Dec.{eqb}
use lib.ListN.{length}
use lib.Ieee as Ieee
use lib.Ieee.{Float, nan, inf, fin, eq, neg}
use lib.Ieee.Fits.{down_pos}
use Rattle.std.proofs.lemmas.Bool.{and_parts}
use Rattle.float.specs.Ops.{zero, one}
use Rattle.linalg.specs.declared.Vec3.{Vec3}
use Rattle.linalg.specs.declared.Vec4.{Vec4}
use Rattle.linalg.specs.Vec.{neg3}
use Rattle.mesh.specs.Mesh.{paired_halfedge, is_forward, Halfedges}
use Rattle.common.proofs.Fold.{fold_keeps}
use Rattle.smoothing.specs.Lists.{tangent_at, put_tangent, weight_at, is_marked_inside_quad}
use Rattle.smoothing.proofs.Tangents.{weight_of, length_put, tangent_put_other}
use Rattle.linearize.specs.Linearize.{is_flat, linearized, linearize_end, linearize_edge, linearize_at, linearize_flat_tangents, TangentsKept}

-- what one arm has of the other, the branch has: f stands for what is looked at
arm : {A B : Type 0} (f : A → B) (b : Bool) (x y : A) → (b ≡ true → f x ≡ f y) → f (cond b x y) ≡ f y
arm f true x y q = q refl
arm f false x y q = refl

-- ---- an end that is not flat is left alone

pub end_unflat : (T : List Float) (e : ℕ) (edge : Vec3) (tangent other : Vec4) → is_flat tangent ≡ false → linearize_end T e edge tangent other ≡ T
unfolding linearize_end
end_unflat T e edge tangent other q = rw q

pub other_end : (T : List Float) (e pair : ℕ) (edge : Vec3) (tangent other : Vec4) → is_flat tangent ≡ false → linearize_edge T e pair edge tangent other ≡ linearize_end T pair (neg3 edge) other tangent
unfolding linearize_edge
other_end T e pair edge tangent other q = rw (end_unflat T e edge tangent other q)

-- ---- the length is kept

end_length : (T : List Float) (e : ℕ) (edge : Vec3) (tangent other : Vec4) → length (linearize_end T e edge tangent other) ≡ length T
unfolding linearize_end
end_length T e edge tangent other = arm length (is_flat tangent) (put_tangent T e (linearized edge other)) T (λ q. length_put T e (linearized edge other))

module _ (H : Halfedges) (P : List Float) where
  pub at_length : (T : List Float) (e : ℕ) → length (linearize_at H P T e) ≡ length T
  unfolding linearize_at linearize_edge
  at_length T e = arm length (is_forward H e) _ T (λ q. end_length _ _ _ _ _ ∙ end_length _ _ _ _ _)

  pub all_length : (T : List Float) (n : ℕ) → length (linearize_flat_tangents H P T n) ≡ length T
  unfolding linearize_flat_tangents
  all_length T n =
      fold_keeps (linearize_at H P) T (λ (S : List Float). length S ≡ length T) n (λ S e h q. at_length S e ∙ q) refl n (omega arith)

-- ---- a tangent that is not flat is kept

end_kept : (T : List Float) (e : ℕ) (edge : Vec3) (tangent other : Vec4) (d : ℕ) → (d ≡ e → is_flat tangent ≡ false) → tangent_at (linearize_end T e edge tangent other) d ≡ tangent_at T d
unfolding linearize_end
end_kept T e edge tangent other d f =
    arm (λ (S : List Float). tangent_at S d) (is_flat tangent) (put_tangent T e (linearized edge other)) T
    (λ flat. tangent_put_other T e (linearized edge other) d (λ q. let unflat = f q in let z : ◌≡◌ {A = ℕ} 0 1 = cc in omega arith))

edge_kept : (T : List Float) (e pair : ℕ) (edge : Vec3) (tangent other : Vec4) (d : ℕ) → (d ≡ e → is_flat tangent ≡ false) → (d ≡ pair → is_flat other ≡ false) → tangent_at (linearize_edge T e pair edge tangent other) d ≡ tangent_at T d
unfolding linearize_edge
edge_kept T e pair edge tangent other d f g = end_kept _ pair _ other tangent d g ∙ end_kept T e edge tangent other d f

-- at the same halfedge stands the same tangent
same_place : (T : List Float) {d e : ℕ} → is_flat (tangent_at T d) ≡ false → d ≡ e → is_flat (tangent_at T e) ≡ false
same_place T f r = rw (← r) f

module _ (H : Halfedges) (P : List Float) (d : ℕ) where
  pub at_kept : (T : List Float) (e : ℕ) → is_flat (tangent_at T d) ≡ false → tangent_at (linearize_at H P T e) d ≡ tangent_at T d
  unfolding linearize_at
  at_kept T e f =
      let pair = paired_halfedge H e in
      arm (λ (S : List Float). tangent_at S d) (is_forward H e) _ T
      (λ q. edge_kept T e pair _ (tangent_at T e) (tangent_at T pair) d (same_place T f) (same_place T f))

  pub all_kept : (T : List Float) (n : ℕ) → is_flat (tangent_at T d) ≡ false → tangent_at (linearize_flat_tangents H P T n) d ≡ tangent_at T d
  unfolding linearize_flat_tangents
  all_kept T n f =
      fold_keeps (linearize_at H P) T (λ (S : List Float). tangent_at S d ≡ tangent_at T d) n (λ S e h q. at_kept S e (rw q f) ∙ q) refl n (omega arith)

-- in particular a marked one
mark_unflat : (w : Float) → eq w (neg one) ≡ true → eq w zero ≡ false
unfolding eq neg Ieee.of_bits
mark_unflat nan q = refl
mark_unflat (inf s) q = refl
mark_unflat (fin s m e) q =
    let a = m * Ieee.up e * 1 in
    let same : a ≡ 1 * Ieee.down e = eqb-true a (1 * Ieee.down e) (and_parts _ _ q).0 in
    let other : eqb a (0 * Ieee.down e) ≡ false = ne_eqb a (0 * Ieee.down e) (λ z. omega (arith, same, z, down_pos e)) in
    rw other

pub marked_kept : (H : Halfedges) (P : List Float) (d : ℕ) (T : List Float) (n : ℕ) → is_marked_inside_quad T d ≡ true → tangent_at (linearize_flat_tangents H P T n) d ≡ tangent_at T d
marked_kept H P d T n q = all_kept H P d T n (rw weight_of (mark_unflat (weight_at T d) q))

-- ---- the claim, of the whole run

pub tangents_kept : (H : Halfedges) (P T : List Float) (n : ℕ) {U : List Float} → U ≡ linearize_flat_tangents H P T n → TangentsKept T U
tangents_kept H P T n e = rw e (record {
  whole = all_length H P T n;
  unflat = λ d. all_kept H P d T n;
  marked = λ d. marked_kept H P d T n;
})
