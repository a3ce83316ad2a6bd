-- On an accepted mesh the lent lists hold what the module `shapes` reads and writes. Assumes nothing.
use Prim.Native.Nat.{ℕ, ◌*◌, ◌<◌}
use mathlib.Core.Path.{◌≡◌, refl, sym, ap, ◌∙◌, subst}
use mathlib.Core.Bool.{Bool}
use mathlib.Core.List.{List}
use lib.ListN.{length}
use lib.Ieee.{Float}
use Rattle.mesh.specs.Mesh.{Halfedges}
use Rattle.mesh.specs.Sound.{Sound}
use Rattle.create_shared.specs.Makings.{MakingIn, Tangents, tangents_of}
use Rattle.create.specs.declared.creases.Crease.{Crease}
use Rattle.create.specs.declared.creases.Crease.TheVariants.{NoCrease, OneEnd, Through, Meeting}
use Rattle.create.specs.Creases.Creases.{crease_of, first_halfedge}
use Rattle.create.specs.Creases.Linked.{pairs_at, first_crease}
use Rattle.create.proofs.CreasesLaws.Points.{none_first, through_in, meeting_in, meeting_first}
use Rattle.create_shared.specs.Verts.{vert_halfedge}
use Rattle.create.specs.Shapes.Shapes.{fix_halfedge, shape_meeting, shape_crease, shape_vert}
use Rattle.create.specs.declared.shapes.shape_lists.ShapeLists.{ShapeLists}
use Rattle.create.specs.Shapes.Lent.{CreaseIn, mesh_of}

module _ {H : Halfedges} {n p : ℕ} (s : Sound H n p) where
  -- the halfedges that a point's creases name
  pub crease_in : (S : List Float) (v first : ℕ) (k : Crease) → first ≡ first_crease H S n v → k ≡ crease_of (pairs_at H S n v) → CreaseIn n first k
  crease_in S v first NoCrease q e = tt
  crease_in S v first OneEnd q e = tt
  crease_in S v first (Through a b x y) q e = let t = through_in s S v a b x y (sym e) in (t.0, t.1)
  crease_in S v first (Meeting m) q e = subst (λ (z : ℕ). z < n) (sym q) (meeting_in s S v m (sym e)).0

  -- the halfedge that stands at a point is that of its first pair at a meeting, and its lowest with no crease
  module _ (P : List Float) (flat : ℕ → Bool) (S : List Float) (v : ℕ) (m : Tangents) where
    by_case : (k : Crease) → k ≡ crease_of (pairs_at H S n v)
        → shape_crease H P flat n (first_crease H S n v) (first_crease H S n v) m k ≡ shape_crease H P flat n (vert_halfedge H n v) (first_halfedge (pairs_at H S n v)) m k
    unfolding shape_crease
    by_case NoCrease e = ap (λ (z : ℕ). tangents_of m.tangents (fix_halfedge n m.fixed z)) (none_first s S v (sym e))
    by_case OneEnd e = refl
    by_case (Through a b x y) e = refl
    by_case (Meeting x) e = ap (λ (z : ℕ). shape_meeting H flat n m z x) (meeting_first s S v x (sym e))

    pub crease_apart : (k : Crease) → k ≡ crease_of (pairs_at H S n v)
        → shape_crease H P flat n (first_crease H S n v) (first_crease H S n v) m k ≡ shape_vert H P flat n (pairs_at H S n) m v
    unfolding shape_vert
    crease_apart k e = by_case k e ∙ ap (shape_crease H P flat n (vert_halfedge H n v) (first_halfedge (pairs_at H S n v)) m) e

-- what the cases ask at a point, of as many tangents and fixed flags
pub making_in : (l : ShapeLists) (T : List Float) (X : List ℕ) → length T ≡ l.creases.n * 4 → length X ≡ l.creases.n → MakingIn (mesh_of l) l.pos.now T X (length X)
making_in l T X q x =
    let f = l.creases.lists in
    rw x (record { tangents = record { points = _; sound = f.sound; whole = f.whole; tangents = q }; positions = l.positions; fixed = x })
