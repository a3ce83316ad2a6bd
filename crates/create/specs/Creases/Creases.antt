-- The Rust's map `vert_tangents` in `create_tangents`, and what its pairs are to a point. H are the halfedges, n is their count, `edges` is the map of that name, `vert` what `vert_tangents` has so far.
use Rattle.std.specs.Prelude.{ℕ, cond, eqb, Float}
use mathlib.Core.List.{List, [], ◌∷◌, foldl}
use Rattle.std.specs.Float.Ieee.{lt, eq}
use Rattle.float.specs.Ops.{◌⊕◌, ◌⊘◌, zero as 0f, one, two}
use Rattle.mesh.specs.Mesh.{start_vert, Halfedges}
use Rattle.common.specs.Fold.{fold_to}
use Rattle.create.specs.Edges.Edges.{push, Pair, pair_of, Entry, absent, present}
use Rattle.create.specs.declared.creases.Crease.{Crease}
use Rattle.create.specs.declared.creases.Crease.TheVariants.{NoCrease, OneEnd, Through, Meeting}
use Rattle.create.specs.declared.creases.Sums.{Sums}

-- ---- `vert_tangents`: the pairs of each point; a point with no pairs is not in the map

-- `.entry(w).or_default().push(q)`
unfoldable pub push_at : (ℕ → List Pair) → ℕ → Pair → ℕ → List Pair
push_at vert w q v = cond (eqb w v) (push (vert v) q) (vert v)

-- the body of the loop over the values of `edges`: the pair at the point where its own side starts, then with its sides exchanged at the point where the other one does
unfoldable pub push_edge : Halfedges → (ℕ → List Pair) → Entry → ℕ → List Pair
push_edge H vert absent = vert
push_edge H vert (present q) =
    push_at (push_at vert (start_vert H q.own.halfedge) q) (start_vert H q.other.halfedge) (pair_of q.other q.own)

-- in ascending order of the key, which is a halfedge
unfoldable pub vert_tangents : Halfedges → (ℕ → Entry) → ℕ → ℕ → List Pair
vert_tangents H edges n = fold_to (λ vert f. push_edge H vert (edges f)) (λ v. []) n

-- ---- two pairs: a crease through the point

-- `first` and `second`, and `smoothness`, which is that of the walk around from the first to the second, and then that from the second on
unfoldable pub through_of : Pair → Pair → Crease
through_of a b =
    Through a.own.halfedge b.own.halfedge
    ((a.other.smoothness ⊕ b.own.smoothness) ⊘ two) ((b.other.smoothness ⊕ a.own.smoothness) ⊘ two)

-- ---- more pairs: a meeting, with the sum of the smoothness of all sides, divided by the number of those that are not 0

abbrev pub count_of : Float → Float
count_of s = cond (eq s 0f) 0f one

-- the body of the loop: `smoothness` and `denom` after a pair
unfoldable pub add_sides : Sums → Pair → Sums
add_sides m q =
    record { smoothness = m.smoothness ⊕ (q.own.smoothness ⊕ q.other.smoothness); denom = m.denom ⊕ count_of q.own.smoothness ⊕ count_of q.other.smoothness }

unfoldable pub sums_of : List Pair → Sums
sums_of l = foldl add_sides (record { smoothness = 0f; denom = 0f }) l

unfoldable pub mean_of : Sums → Float
mean_of m = cond (lt 0f m.denom) (m.smoothness ⊘ m.denom) m.smoothness

-- ---- what the pairs of a point are to it

unfoldable pub crease_of : List Pair → Crease
crease_of [] = NoCrease
crease_of (a ∷ []) = OneEnd
crease_of (a ∷ b ∷ []) = through_of a b
crease_of (a ∷ b ∷ c ∷ l) = Meeting (mean_of (sums_of (a ∷ b ∷ c ∷ l)))

-- `vert[0].0.halfedge`, which is asked for at a meeting alone; 0 where there is no pair
abbrev pub first_halfedge : List Pair → ℕ
first_halfedge [] = 0
first_halfedge (a ∷ l) = a.own.halfedge
