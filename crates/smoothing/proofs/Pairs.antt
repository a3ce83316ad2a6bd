-- Where there are no old tangents, both halfedges of an edge are inside a quad or neither is. Assumes nothing.
use Prim.Native.Nat.{ℕ, ◌/◌, ◌<◌}
use mathlib.Core.Path.{◌≡◌, refl, sym}
use mathlib.Core.List.{List}
use mathlib.Core.Bool.{Bool, true, false, ◌&&◌}
use borrow.Author.Tests.{eqb-true, eqb-false, eq-eqb, ne_eqb}
use lib.IntN.{ℤ, pos, negsuc}
use lib.Dec.{eqb}
use lib.Ieee.{Float}
use Rattle.mesh.specs.Mesh.{paired_halfedge, eq_z, ref_at, same_face, Halfedges}
use Rattle.mesh.specs.Sound.{Sound}
use Rattle.smoothing.specs.Edges.{same_face_across, no_other_neighbor, is_inside_quad}

-- ---- `==` either way round

eqb_flip : (a b : ℕ) → eqb a b ≡ eqb b a
eqb_flip a b = go (eqb b a) refl
  where
    go : (t : Bool) → eqb b a ≡ t → eqb a b ≡ t
    go true q = eq-eqb a b (sym (eqb-true b a q))
    go false q = ne_eqb a b (λ p. eqb-false b a q (sym p))

same_flip : (x y : ℤ) → eq_z x y ≡ eq_z y x
unfolding eq_z
same_flip (pos a) (pos b) = eqb_flip a b
same_flip (pos a) (negsuc b) = refl
same_flip (negsuc a) (pos b) = refl
same_flip (negsuc a) (negsuc b) = eqb_flip a b

face_flip : (R : List ℤ) (a b : ℕ) → same_face R a b ≡ same_face R b a
unfolding same_face
face_flip R a b =
    rw (same_flip (ref_at R a 0) (ref_at R b 0), same_flip (ref_at R a 1) (ref_at R b 1), same_flip (ref_at R a 2) (ref_at R b 2))

-- ---- inside a quad

and_flip : (s a b : Bool) → (s && a && b) ≡ (s && b && a)
and_flip true true true = refl
and_flip true true false = refl
and_flip true false true = refl
and_flip true false false = refl
and_flip false a b = refl

pub inside_pair : (H : Halfedges) (R : List ℤ) (n p : ℕ) (T : List Float) → Sound H n p → (e : ℕ) → e < n → is_inside_quad H R T false (paired_halfedge H e) ≡ is_inside_quad H R T false e
unfolding is_inside_quad same_face_across
inside_pair H R n p T s e h =
    rw (s.paired_back e h, face_flip R (paired_halfedge H e / 3) (e / 3))
    (and_flip (same_face R (e / 3) (paired_halfedge H e / 3)) (no_other_neighbor H R (paired_halfedge H e)) (no_other_neighbor H R e))
