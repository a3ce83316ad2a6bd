-- How three scratch lists hold the Rust's map `vert_tangents`: M the smoothness of each of the n halfedges, W with a place per point, L with a place per halfedge. Only contracts inside a call name these; `vert_tangents_lem` of `proofs/CreasesLaws/Verts.antt` says that the two agree.
use Rattle.std.specs.Prelude.{ℕ, zero, suc, ◌+◌, ◌*◌, ◌-◌, ◌<◌, ◌≡◌, List, [], ◌∷◌, map, Bool, cond, ◌&&◌, length, get_or, eqb, leb, Float}
use Rattle.mesh.specs.Mesh.{halfedge_stride, start_vert, paired_halfedge, Halfedges}
use Rattle.mesh.specs.Sound.{Sound}
use Rattle.create_shared.specs.Verts.{vert_halfedge}
use Rattle.create.specs.Edges.Edges.{Pair}
use Rattle.create.specs.Edges.Smoothness.{is_crease, pair_at}

-- ---- the creases at a point v, each as its halfedge that starts at v, in ascending order of the forward halfedge

-- e in front, if it starts at v
unfoldable pub add_halfedge : Halfedges → ℕ → ℕ → List ℕ → List ℕ
add_halfedge H v e l = cond (eqb (start_vert H e) v) (e ∷ l) l

-- the edge of f in front, if it is a crease
unfoldable pub add_crease : Halfedges → List Float → ℕ → ℕ → List ℕ → List ℕ
add_crease H M v f l = cond (is_crease H M f) (add_halfedge H v f (add_halfedge H v (paired_halfedge H f) l)) l

-- the creases among the k halfedges from f on
unfoldable pub creases_from : Halfedges → List Float → ℕ → ℕ → ℕ → List ℕ
creases_from H M v zero f = []
creases_from H M v (suc k) f = add_crease H M v f (creases_from H M v k (suc f))

unfoldable pub creases_at : Halfedges → List Float → ℕ → ℕ → List ℕ
creases_at H M n v = creases_from H M v n 0

-- and as pairs
abbrev pub pairs_at : Halfedges → List Float → ℕ → ℕ → List Pair
pairs_at H M n v = map (pair_at H M) (creases_at H M n v)

-- ---- the lists W and L

-- A linked list from the number c on: suc n + e stands for halfedge e, whose place of L has the next number, and `end` ends the list. At a point `end` is its lowest halfedge, n for none.
abbrev pub Linked : ℕ → List ℕ → ℕ → ℕ → List ℕ → Type 0
Linked n L end c [] = c ≡ end
Linked n L end c (e ∷ l) = (c ≡ suc n + e) × Linked n L end (get_or L e 0) l

-- the same as a test, whose answer a struct can keep: `linked_tests` and `linked_all` of `proofs/CreasesLaws/Lent.antt` say that it is `LinkedAll`
abbrev pub is_linked : ℕ → List ℕ → ℕ → ℕ → List ℕ → Bool
is_linked n L end c [] = eqb c end
is_linked n L end c (e ∷ l) = eqb c (suc n + e) && is_linked n L end (get_or L e 0) l

-- the halfedge that stands at a point: that of its first crease, and with no crease its lowest
abbrev pub first_crease : Halfedges → List Float → ℕ → ℕ → ℕ
first_crease H M n v = get_or (creases_at H M n v) 0 (vert_halfedge H n v)

-- the halfedge that a number stands for
unfoldable pub halfedge_of : ℕ → ℕ → ℕ
halfedge_of n c = cond (leb c n) c (c - suc n)

-- the creases from halfedge f on, at each point
abbrev pub LinkedFrom : Halfedges → List Float → List ℕ → List ℕ → ℕ → ℕ → Type 0
LinkedFrom H M W L n f = (v : ℕ) → v < length W → Linked n L (vert_halfedge H n v) (get_or W v 0) (creases_from H M v (n - f) f)

abbrev pub LinkedAll : Halfedges → List Float → List ℕ → List ℕ → ℕ → Type 0
LinkedAll H M W L n = (v : ℕ) → v < length W → Linked n L (vert_halfedge H n v) (get_or W v 0) (creases_at H M n v)

-- what the lists must be for a call: `lists_in` of `proofs/CreasesLaws/Lent.antt` gives it on an accepted mesh
pub record Lists (H : Halfedges) (M : List Float) (W L : List ℕ) (n : ℕ) : Type 0 where
  pub sound : Sound H n (length W)
  pub whole : H.numbers ≡ n * halfedge_stride
  pub smooth : length M ≡ n
  pub links : length L ≡ n
