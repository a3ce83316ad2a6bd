-- On an accepted mesh the lent lists hold what the module `creases` reads and writes. Assumes nothing.
use Prim.Native.Nat.{ℕ, suc, ◌+◌, ◌*◌, ◌<◌}
use native.Mathlib.Omega.{arith}
use mathlib.Core.Path.{◌≡◌, sym, subst}
use mathlib.Core.List.{List, [], ◌∷◌}
use mathlib.Core.Bool.{true}
use lib.ListN.{length, get_or}
use lib.Dec.{eqb}
use lib.Ieee.{Float}
use borrow.Author.Tests.{eq-eqb, eqb-true}
use Rattle.std.proofs.lemmas.Bool.{and_parts, and_from}
use Rattle.mesh.specs.Mesh.{halfedge_stride, as_halfedges, Halfedges}
use Rattle.mesh.specs.Sound.{Sound}
use Rattle.mesh.proofs.Inside.{inside}
use Rattle.create.specs.Edges.Lent.{SidesIn}
use Rattle.create_shared.specs.Verts.{vert_halfedge}
use Rattle.create.specs.Creases.Linked.{creases_at, Linked, is_linked, LinkedAll, Lists}
use Rattle.create.specs.declared.creases.linked_creases.LinkedCreases.{LinkedCreases}

module _ {H : Halfedges} {n p : ℕ} (s : Sound H n p) (whole : H.numbers ≡ n * halfedge_stride) where
  pub lists_in : {S : List Float} {A L : List ℕ} → length A ≡ p → length S ≡ n → length L ≡ n → Lists H S A L n
  lists_in a l k = record { sound = subst (Sound H n) (sym a) s; whole = whole; smooth = l; links = k }

-- what reads of the smoothness of both sides ask
pub sides_in : {H : Halfedges} {S : List Float} {A L : List ℕ} {n : ℕ} → Lists H S A L n → (e : ℕ) → e < n → SidesIn H S e
sides_in s e h = record { own = omega (arith, s.smooth); other = omega (arith, s.smooth, s.sound.paired_below e h); inside = inside s.sound s.whole e h }

-- ---- the linked lists: the test that `LinkedCreases` keeps of each point is `LinkedAll`

is_tested : (n : ℕ) (L : List ℕ) (end c : ℕ) (l : List ℕ) → Linked n L end c l → is_linked n L end c l ≡ true
is_tested n L end c [] d = eq-eqb c end d
is_tested n L end c (e ∷ l) d = and_from _ _ (eq-eqb c (suc n + e) d.0) (is_tested n L end (get_or L e 0) l d.1)

tested_is : (n : ℕ) (L : List ℕ) (end c : ℕ) (l : List ℕ) → is_linked n L end c l ≡ true → Linked n L end c l
tested_is n L end c [] t = eqb-true c end t
tested_is n L end c (e ∷ l) t =
    let z = and_parts (eqb c (suc n + e)) (is_linked n L end (get_or L e 0) l) t in
    (eqb-true c (suc n + e) z.0, tested_is n L end (get_or L e 0) l z.1)

pub linked_tests : (H : Halfedges) (S : List Float) (A L : List ℕ) (n : ℕ) → LinkedAll H S A L n → (v : ℕ) → v < length A → is_linked n L (vert_halfedge H n v) (get_or A v 0) (creases_at H S n v) ≡ true
linked_tests H S A L n d v h = is_tested n L (vert_halfedge H n v) (get_or A v 0) (creases_at H S n v) (d v h)

pub linked_all : (C : LinkedCreases) → LinkedAll (as_halfedges C.h.now) C.smooth.now C.at.now C.link.now C.n
linked_all C v h = tested_is C.n C.link.now (vert_halfedge (as_halfedges C.h.now) C.n v) (get_or C.at.now v 0) (creases_at (as_halfedges C.h.now) C.smooth.now C.n v) (C.linked v h)
