-- Making from normals where each halfedge's row holds the three numbers that the halfedge had of its own before there were rows (docs/changes/01-rows.md): what an accepted call leaves and counts then. O is the list of these numbers, three at each halfedge's own place; the other letters are those of `FromNormals`.
use Rattle.std.specs.Prelude.{ℕ, ◌<◌, ◌≡◌, List, Bool, ℤ, Float}
use Rattle.mesh.specs.Mesh.{Halfedges, as_halfedges}
use Rattle.smoothing.specs.Lists.{point_at}
use Rattle.create_from_normals.specs.State.State.{get_normal}
use Rattle.create_from_normals.specs.Whole.Core.{create_tangents_from_normals, from_normals_directionless}

-- each halfedge's row in G holds its three old numbers
abbrev pub HoldsOld : List ℤ → List Float → List Float → ℕ → Type 0
HoldsOld list G O n = (e : ℕ) → e < n → get_normal list G e ≡ point_at O e

-- ---- the tangents

-- those of before: the same definition, with the normal of halfedge e at its own place
abbrev pub from_halfedge_normals : Halfedges → List Float → List Float → List Float → List ℤ → List Float → List Float → Bool → ℕ → ℕ → List Float
from_halfedge_normals H P N A R O T old n p = create_tangents_from_normals H P N A R (point_at O) T old n p

-- THE CLAIM of a call that left the tangents `after`: where its rows hold old numbers, these are the tangents of before
abbrev pub OldTangents : List ℤ → List Float → List Float → List Float → List ℤ → List Float → List Float → Bool → ℕ → ℕ → List Float → Type 0
OldTangents list P N A R G T old n p after =
    (O : List Float) → HoldsOld list G O n → after ≡ from_halfedge_normals (as_halfedges list) P N A R O T old n p

-- ---- the count of circular tangents on an edge without direction

-- by the same definition, likewise
abbrev pub from_halfedge_directionless : Halfedges → List Float → List Float → List Float → List ℤ → List Float → List Float → Bool → ℕ → ℕ → ℕ
from_halfedge_directionless H P N A R O T old n p = from_normals_directionless H P N A R (point_at O) T old n p

-- THE CLAIM of a call that answered `count`
abbrev pub OldCount : List ℤ → List Float → List Float → List Float → List ℤ → List Float → List Float → Bool → ℕ → ℕ → ℕ → Type 0
OldCount list P N A R G T old n p count =
    (O : List Float) → HoldsOld list G O n → count ≡ from_halfedge_directionless (as_halfedges list) P N A R O T old n p
