-- What the pairs of each point do to the tangents and the fixed flags in `create_tangents`, before straightening and spreading. H are the halfedges, P the positions, `flat` says of a triangle whether it lies in a flat face, `vert` is the map `vert_tangents`, n the count of halfedges.
use Rattle.std.specs.Prelude.{ℕ, List, Bool, cond, set, ltb, Float}
use Rattle.common.specs.Fold.{fold_to}
use Rattle.common.specs.Count.{sum}
use Rattle.mesh.specs.Mesh.{Halfedges}
use Rattle.create_shared.specs.Verts.{vert_halfedge}
use Rattle.create.specs.Edges.Edges.{Pair}
use Rattle.create.specs.declared.creases.Crease.{Crease}
use Rattle.create.specs.declared.creases.Crease.TheVariants.{NoCrease, OneEnd, Through, Meeting}
use Rattle.create.specs.Creases.Creases.{crease_of, first_halfedge}
use Rattle.create_shared.specs.Makings.{Tangents, tangents_of, align_tangents, aligned_directionless}
use Rattle.create.specs.Shapes.Sharpen.{new_tangent, sharpen_sides, sharpen_meeting}

-- ---- the cases

-- no pair, where `lowest` is `vert_halfedge[v]`, n for the Rust's -1: it is fixed, if it is a halfedge
unfoldable pub fix_halfedge : ℕ → List ℕ → ℕ → List ℕ
fix_halfedge n X lowest = cond (ltb lowest n) (set X lowest 1) X

-- two pairs, a crease through the point: both halfedges are fixed and aligned, the others of the vertex cycle sharpened by side
unfoldable pub shape_through : Halfedges → List Float → ℕ → Tangents → ℕ → ℕ → Float → Float → Tangents
shape_through H P n m first second between beyond =
    let aligned = align_tangents H P m first second (new_tangent m.tangents first second) in
    tangents_of (sharpen_sides H n aligned.tangents first second between beyond) aligned.fixed

-- more pairs, a meeting: the vertex cycle of the first one's halfedge is sharpened
unfoldable pub shape_meeting : Halfedges → (ℕ → Bool) → ℕ → Tangents → ℕ → Float → Tangents
shape_meeting H flat n m first mean = tangents_of (sharpen_meeting H flat n m.tangents first mean) m.fixed

-- `lowest` is `vert_halfedge[v]`, `first` is `vert[0].0.halfedge`
unfoldable pub shape_crease : Halfedges → List Float → (ℕ → Bool) → ℕ → ℕ → ℕ → Tangents → Crease → Tangents
shape_crease H P flat n lowest first m NoCrease = tangents_of m.tangents (fix_halfedge n m.fixed lowest)
shape_crease H P flat n lowest first m OneEnd = m
shape_crease H P flat n lowest first m (Through a b between beyond) = shape_through H P n m a b between beyond
shape_crease H P flat n lowest first m (Meeting mean) = shape_meeting H flat n m first mean

-- ---- the loop

-- its body, at point v
unfoldable pub shape_vert : Halfedges → List Float → (ℕ → Bool) → ℕ → (ℕ → List Pair) → Tangents → ℕ → Tangents
shape_vert H P flat n vert m v = shape_crease H P flat n (vert_halfedge H n v) (first_halfedge (vert v)) m (crease_of (vert v))

-- all p points
unfoldable pub shape_verts : Halfedges → List Float → (ℕ → Bool) → ℕ → (ℕ → List Pair) → ℕ → Tangents → Tangents
shape_verts H P flat n vert p m = fold_to (shape_vert H P flat n vert) m p

-- ---- the count of circular tangents on an edge without direction

-- Of a point: with two pairs, `circular_tangent` of `new_tangent` and of `-new_tangent`, on either edge of the crease. No other case computes one.
unfoldable pub crease_directionless : Halfedges → List Float → Crease → ℕ
crease_directionless H P NoCrease = 0
crease_directionless H P OneEnd = 0
crease_directionless H P (Through a b between beyond) = aligned_directionless H P a b
crease_directionless H P (Meeting mean) = 0

-- of point v
abbrev pub vert_directionless : Halfedges → List Float → (ℕ → List Pair) → ℕ → ℕ
vert_directionless H P vert v = crease_directionless H P (crease_of (vert v))

-- all p points
abbrev pub creases_directionless : Halfedges → List Float → (ℕ → List Pair) → ℕ → ℕ
creases_directionless H P vert p = sum p (vert_directionless H P vert)
