-- How a scratch list M with a place for each of the n halfedges holds the Rust's map `edges`: the smoothness of each halfedge, 1 where no entry names it. Only contracts inside a call name these; `same_map` of `proofs/EdgesLaws/Edges.antt` says that the two agree.
use Rattle.std.specs.Prelude.{ℕ, ◌/◌, ◌<◌, ◌≡◌, List, Bool, cond, not, ◌&&◌, ◌||◌, ℤ, Float}
use Rattle.std.specs.Float.Ieee.{lt}
use Rattle.float.specs.Ops.{zero, one}
use Rattle.mesh.specs.Mesh.{paired_halfedge, is_forward, same_face, Halfedges}
use Rattle.common.specs.Fold.{fold_to}
use Rattle.create.specs.Sharp.EntrySmoothness.{smoothness_at, add_entry}
use Rattle.create.specs.Edges.Edges.{side_of, Pair, pair_of, Entry, absent, present}

-- ---- the entries of the flat faces, after the caller's

-- halfedge e of a flat face, and across it another face
unfoldable pub is_flat_boundary : Halfedges → List ℤ → (ℕ → Bool) → ℕ → Bool
is_flat_boundary H R flat e =
    flat (e / 3) && (not (flat (paired_halfedge H e / 3)) || not (same_face R (e / 3) (paired_halfedge H e / 3)))

-- the body of the loop, at halfedge e: an entry of smoothness 0
unfoldable pub add_flat_boundary : Halfedges → List ℤ → (ℕ → Bool) → List Float → ℕ → List Float
add_flat_boundary H R flat M e = cond (is_flat_boundary H R flat e) (add_entry M e zero) M

-- the smoothness of each halfedge, where M holds that of the caller's entries
unfoldable pub smoothness : Halfedges → List ℤ → (ℕ → Bool) → List Float → ℕ → List Float
smoothness H R flat M n = fold_to (add_flat_boundary H R flat) M n

-- ---- the edges of the map

-- the smoothness of the other side of e's edge
abbrev pub pair_smoothness : Halfedges → List Float → ℕ → Float
pair_smoothness H M e = smoothness_at M (paired_halfedge H e)

-- is f a key of the map: the forward halfedge of an edge with a side below 1?
unfoldable pub is_crease : Halfedges → List Float → ℕ → Bool
is_crease H M f = is_forward H f && (lt (smoothness_at M f) one || lt (pair_smoothness H M f) one)

-- the two sides of e's edge, e's own first
abbrev pub pair_at : Halfedges → List Float → ℕ → Pair
pair_at H M e = pair_of (side_of e (smoothness_at M e)) (side_of (paired_halfedge H e) (pair_smoothness H M e))

-- the map `edges` has the creases of the list M, each with its two sides, and nothing else below n
abbrev pub SameMap : Halfedges → (ℕ → Entry) → List Float → ℕ → Type 0
SameMap H edges M n = (f : ℕ) → f < n → edges f ≡ cond (is_crease H M f) (present (pair_at H M f)) absent
