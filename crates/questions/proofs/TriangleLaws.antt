-- A mesh at whose triangles the questions 3 to 7 hold is sound.
use Prim.Native.Nat.{ℕ, zero, suc, ◌+◌, ◌*◌, ◌%◌, ◌/◌, ◌≤◌, ◌<◌}
use native.Mathlib.Omega.{arith}
use mathlib.Core.Path.{◌≡◌, refl, sym, subst, ◌∙◌}
use mathlib.Core.Bool.{true, ◌&&◌}
use mathlib.Core.Logic.{◌⊎◌, inl, inr, ⊎_elim}
use borrow.Author.Tests.{ltb-true, leb-true, eqb-true, eqb-false, not-true}
use lib.Dec.{ltb, eqb}
use Rattle.mesh.specs.Mesh.{max_halfedges, max_points, start_vert, end_vert, paired_halfedge, next_halfedge, Halfedges}
use Rattle.common.specs.Lowest.{lowest}
use Rattle.questions.specs.All.{halfedge_holds, triangle_holds, triangles_hold}
use Rattle.mesh.specs.Sound.{Sound}
use Rattle.std.proofs.lemmas.Bool.{and_parts}
use Rattle.mesh.proofs.Halfedges.{next_cases}
use Rattle.common.proofs.Lowest.{lowest_before}

module _ (H : Halfedges) (n p : ℕ) where
  -- what is sound at halfedge e
  record Holds (e : ℕ) : Type 0 where
    start_below : start_vert H e < p
    end_below : end_vert H e < p
    paired_below : paired_halfedge H e < n
    paired_back : paired_halfedge H (paired_halfedge H e) ≡ e
    ends_differ : start_vert H e ≡ end_vert H e → ⊥
    paired_start : start_vert H (paired_halfedge H e) ≡ end_vert H e
    next_start : start_vert H (next_halfedge e) ≡ end_vert H e

  -- from the tests at e, where f is the next one
  holding : (e f : ℕ) → next_halfedge e ≡ f → ltb (start_vert H e) p ≡ true → ltb (start_vert H f) p ≡ true → halfedge_holds H n e (start_vert H e) (start_vert H f) ≡ true → Holds e
  unfolding halfedge_holds
  holding e f next start other all =
      let o = and_parts (eqb (end_vert H e) (start_vert H f)) _ all in
      let q = and_parts (ltb (paired_halfedge H e) n) _ o.1 in
      let r = and_parts (eqb (paired_halfedge H (paired_halfedge H e)) e) _ q.1 in
      let s = and_parts (eqb (start_vert H (paired_halfedge H e)) (start_vert H f)) _ r.1 in
      let end : end_vert H e ≡ start_vert H f = eqb-true _ _ o.0 in
      record {
        start_below = ltb-true _ _ start;
        end_below = rw end (ltb-true _ _ other);
        paired_below = ltb-true _ _ q.0;
        paired_back = eqb-true _ _ r.0;
        ends_differ = λ w. eqb-false _ _ (not-true _ s.1) (w ∙ end);
        paired_start = eqb-true _ _ s.0 ∙ sym end;
        next_start = rw next (sym end);
      }

  -- the three halfedges of a triangle
  held : (e : ℕ) → e % 3 ≡ 0 → triangle_holds H n p e ≡ true → Holds e × Holds (e + 1) × Holds (e + 2)
  unfolding triangle_holds
  held e m t =
      let q = and_parts (ltb (start_vert H e) p && (ltb (start_vert H (e + 1)) p && ltb (start_vert H (e + 2)) p)) _ t in
      let a = and_parts (ltb (start_vert H e) p) _ q.0 in
      let b = and_parts (ltb (start_vert H (e + 1)) p) (ltb (start_vert H (e + 2)) p) a.1 in
      let f = and_parts (halfedge_holds H n e (start_vert H e) (start_vert H (e + 1))) _ q.1 in
      let g = and_parts (halfedge_holds H n (e + 1) (start_vert H (e + 1)) (start_vert H (e + 2))) _ f.1 in
      let to₁ : next_halfedge e ≡ e + 1 = ⊎_elim (λ w. omega arith) (λ w. omega arith) (next_cases e) in
      let to₂ : next_halfedge (e + 1) ≡ e + 2 = ⊎_elim (λ w. omega arith) (λ w. omega arith) (next_cases (e + 1)) in
      let to₀ : next_halfedge (e + 2) ≡ e = ⊎_elim (λ w. omega arith) (λ w. omega arith) (next_cases (e + 2)) in (
        holding e (e + 1) to₁ a.0 b.0 f.0,
        holding (e + 1) (e + 2) to₂ b.0 b.1 g.0,
        holding (e + 2) e to₀ b.1 a.0 g.1,
      )

  -- which of the three a halfedge is
  place : (e : ℕ) → (e ≡ e / 3 * 3) ⊎ ((e ≡ e / 3 * 3 + 1) ⊎ (e ≡ e / 3 * 3 + 2))
  place e = go (e % 3) refl (let l : e % 3 < 3 = omega arith in l)
    where
      go : (r : ℕ) → e % 3 ≡ r → r < 3 → (e ≡ e / 3 * 3) ⊎ ((e ≡ e / 3 * 3 + 1) ⊎ (e ≡ e / 3 * 3 + 2))
      go zero q l = inl (omega arith)
      go (suc zero) q l = inr (inl (omega arith))
      go (suc (suc zero)) q l = inr (inr (omega arith))
      go (suc (suc (suc r))) q l = absurd (omega arith)

  pub triangles_sound : n % 3 ≡ 0 → n ≤ max_halfedges → p ≤ max_points → triangles_hold H n p ≡ true → Sound H n p
  triangles_sound t few_h few_p a = record {
    triangles = t;
    few_halfedges = few_h;
    few_points = few_p;
    start_below = λ e h. (at e h).start_below;
    end_below = λ e h. (at e h).end_below;
    paired_below = λ e h. (at e h).paired_below;
    paired_back = λ e h. (at e h).paired_back;
    ends_differ = λ e h. (at e h).ends_differ;
    paired_start = λ e h. (at e h).paired_start;
    paired_end = other_end;
    next_start = λ e h. (at e h).next_start;
  }
    where
      of : (k : ℕ) → k < n / 3 → Holds (k * 3) × Holds (k * 3 + 1) × Holds (k * 3 + 2)
      of k h = held (k * 3) (omega arith) (lowest_before (λ i. triangle_holds H n p (i * 3)) (n / 3) k (let l = leb-true (n / 3) (lowest (λ i. triangle_holds H n p (i * 3)) (n / 3)) a in omega arith))

      at : (e : ℕ) → e < n → Holds e
      at e h =
          let three = of (e / 3) (omega arith) in
          ⊎_elim (λ q. subst Holds (sym q) three.0) (⊎_elim (λ q. subst Holds (sym q) three.1) (λ q. subst Holds (sym q) three.2)) (place e)

      -- the pair's own turn
      other_end : (e : ℕ) → e < n → end_vert H (paired_halfedge H e) ≡ start_vert H e
      other_end e h =
          let there = at (paired_halfedge H e) (at e h).paired_below in
          sym (rw (at e h).paired_back at there.paired_start)
