-- The Rust's `sharpened_edges` and its map `edges` in `create_tangents`. H are the halfedges, R the face references, `flat` says of a triangle whether it lies in a flat face, E are the caller's sharp entries, n is the count of halfedges.
use Rattle.std.specs.Prelude.{ℕ, ◌+◌, ◌*◌, ◌/◌, Bool, true, false, cond, not, ◌||◌, ℤ, eqb, Float}
use mathlib.Core.List.{List, [], ◌∷◌, ◌++◌, foldl}
use Rattle.std.specs.Float.Ieee.{le}
use Rattle.float.specs.Ops.{zero, one}
use Rattle.float.specs.F64.{min_of}
use Rattle.mesh.specs.Mesh.{paired_halfedge, is_forward, same_face, Halfedges}
use Rattle.common.specs.Fold.{fold_to}
use Rattle.create.specs.declared.sharp.Smoothness.{Smoothness}

-- a side of an edge: its halfedge, and its smoothness
abbrev pub side_of : ℕ → Float → Smoothness
side_of e s = record { halfedge = e; smoothness = s }

-- `push`
abbrev pub push : {A : Type 0} → List A → A → List A
push l x = l ++ (x ∷ [])

-- ---- `sharpened_edges`: the caller's entries, and behind them one of smoothness 0 for each halfedge at which a flat face ends

-- the body of the inner loop, at edge j of triangle `tri`
unfoldable pub push_boundary : Halfedges → List ℤ → (ℕ → Bool) → ℕ → List Smoothness → ℕ → List Smoothness
push_boundary H R flat tri l j =
    let tri2 = paired_halfedge H (tri * 3 + j) / 3 in
    cond (not (flat tri2) || not (same_face R tri tri2)) (push l (side_of (tri * 3 + j) zero)) l

-- the body of the outer one
unfoldable pub push_boundaries : Halfedges → List ℤ → (ℕ → Bool) → List Smoothness → ℕ → List Smoothness
push_boundaries H R flat l tri = cond (flat tri) (fold_to (push_boundary H R flat tri) l 3) l

unfoldable pub sharpened_edges : Halfedges → List ℤ → (ℕ → Bool) → List Smoothness → ℕ → List Smoothness
sharpened_edges H R flat E n = fold_to (push_boundaries H R flat) E (n / 3)

-- ---- `edges`: for the forward halfedge of an edge the smoothness of its two sides

-- `Pair`: the side of a halfedge, and the other one
pub record Pair : Type 0 where
  pub own : Smoothness
  pub other : Smoothness

abbrev pub pair_of : Smoothness → Smoothness → Pair
pair_of a b = record { own = a; other = b }

-- what the map has for a key
pub data Entry : Type 0 where
  absent : Entry
  present : Pair → Entry

-- `e.smoothness = e.smoothness.min(edge.smoothness)`
abbrev pub at_most : Smoothness → Float → Smoothness
at_most x s = side_of x.halfedge (min_of x.smoothness s)

-- `and_modify`, for an entry of smoothness s on the side of the key or on the other
unfoldable pub and_modify : Bool → Float → Pair → Pair
and_modify true s q = pair_of (at_most q.own s) q.other
and_modify false s q = pair_of q.own (at_most q.other s)

-- `or_insert_with`: the side that the entry x does not name, that of `pair`, has 1
unfoldable pub or_insert : Bool → Smoothness → ℕ → Pair
or_insert true x pair = pair_of x (side_of pair one)
or_insert false x pair = pair_of (side_of pair one) x

unfoldable pub modify : Bool → Smoothness → ℕ → Entry → Entry
modify forward x pair absent = present (or_insert forward x pair)
modify forward x pair (present q) = present (and_modify forward x.smoothness q)

-- `idx`: the forward one of e and its pair
unfoldable pub key_of : Halfedges → ℕ → ℕ
key_of H e = cond (is_forward H e) e (paired_halfedge H e)

-- the body of the loop, at the entry x: the map `edges` after it. At 1 or above it is passed over.
unfoldable pub insert : Halfedges → (ℕ → Entry) → Smoothness → ℕ → Entry
insert H edges x f =
    let e = x.halfedge in
    cond (le one x.smoothness) (edges f) (cond (eqb f (key_of H e)) (modify (is_forward H e) x (paired_halfedge H e) (edges f)) (edges f))

-- all entries of a list, from the empty map
unfoldable pub edges_of : Halfedges → List Smoothness → ℕ → Entry
edges_of H l = foldl (insert H) (λ f. absent) l
