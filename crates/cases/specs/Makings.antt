-- What a making on the pillow does with the tangents that it is handed: which halfedges it fixes, how many circular tangents it computes on an edge without direction, and how the creases that meet at a point sharpen them.
use Rattle.std.specs.Prelude.{ℕ, ◌≡◌, true, false, List, [], ◌∷◌, ◌++◌, replicate, Float}
use Rattle.std.specs.Float.Ieee.{neg}
use Rattle.float.specs.Ops.{zero, half, one}
use Rattle.common.specs.Pillow.{pillow, refs, positions}
use Rattle.mesh.specs.Mesh.{as_halfedges}
use Rattle.smoothing.specs.Edges.{is_inside_quad}
use Rattle.smoothing.specs.Faces.{flat_faces, is_flat}
use Rattle.create_shared.specs.Makings.{Tangents, tangents_of}
use Rattle.create.specs.declared.sharp.Smoothness.{Smoothness}
use Rattle.create.specs.Edges.Edges.{side_of, sharpened_edges, edges_of}
use Rattle.create.specs.Creases.Creases.{vert_tangents}
use Rattle.create.specs.Shapes.Sharpen.{sharpen_meeting}
use Rattle.create.specs.Whole.Shape.{shaped_tangents}
use Rattle.create.specs.Whole.Core.{create_directionless}

abbrev pub ones : List Float
ones = one ∷ one ∷ one ∷ one ∷ []

abbrev pub mark : List Float
mark = zero ∷ zero ∷ zero ∷ neg one ∷ []

abbrev pub marks : List Float
marks = mark ++ mark ++ mark ++ mark ++ mark ++ mark

-- nine numbers of one point
abbrev pub one_place : List Float
one_place = replicate 9 one

-- the edges 0-1, 1-2 and 0-2 as creases
abbrev pub crease_0_1 : Smoothness
crease_0_1 = side_of 0 half

abbrev pub crease_1_2 : Smoothness
crease_1_2 = side_of 1 half

abbrev pub crease_0_2 : Smoothness
crease_0_2 = side_of 2 half

-- the tangents and the fixed halfedges, where all old tangents are marks
abbrev pub shaped : List Smoothness → Tangents
shaped entries =
    shaped_tangents (as_halfedges pillow) one_place one_place (replicate 6 one) refs (is_inside_quad (as_halfedges pillow) refs marks true)
    (vert_tangents (as_halfedges pillow) (edges_of (as_halfedges pillow) (sharpened_edges (as_halfedges pillow) refs (is_flat (flat_faces (as_halfedges pillow) refs 6)) entries 6)) 6) 6 3

-- how many circular tangents are computed on an edge without direction, at these points, without old tangents; no halfedge is inside a quad
abbrev pub counted : List Float → List Smoothness → ℕ
counted points entries = create_directionless (as_halfedges pillow) points refs entries [] false 6 3

-- the tangents, with this one of halfedge 1; halfedge 5 is marked
abbrev pub with_first : List Float → List Float
with_first t = ones ++ t ++ ones ++ ones ++ ones ++ mark

-- they after a meeting of mean 1/2, as if there were one, at point 1, whose halfedges are 1 and 5; these are the triangles' flags of flat faces
abbrev pub sharpened : List ℕ → List Float
sharpened flat = sharpen_meeting (as_halfedges pillow) (is_flat flat) 6 (with_first ones) 1 half

pub record MakingsHold : Type 0 where
  -- marks stay, and the creases decide which halfedges are fixed. No crease: each point's lowest halfedge
  pub without_creases : shaped [] ≡ tangents_of marks (1 ∷ 1 ∷ 1 ∷ 0 ∷ 0 ∷ 0 ∷ [])
  -- the edge 0-1 is a crease: its ends fix nothing
  pub with_crease : shaped (crease_0_1 ∷ []) ≡ tangents_of marks (0 ∷ 0 ∷ 1 ∷ 0 ∷ 0 ∷ 0 ∷ [])
  -- all points are the same, so that no edge has a direction: each first tangent counts
  pub all_first : counted one_place [] ≡ 6
  -- the edges 0-1 and 1-2 are creases: both tangents of the crease through point 1 too
  pub one_through : counted one_place (crease_0_1 ∷ crease_1_2 ∷ []) ≡ 8
  -- each edge is a crease: no mesh of six halfedges counts more
  pub all_through : counted one_place (crease_0_1 ∷ crease_1_2 ∷ crease_0_2 ∷ []) ≡ 12
  -- at the pillow's own points none
  pub none : counted positions (crease_0_1 ∷ crease_1_2 ∷ crease_0_2 ∷ []) ≡ 0
  -- the mean is a half
  pub by_the_mean : sharpened (0 ∷ 0 ∷ []) ≡ with_first (half ∷ half ∷ half ∷ one ∷ [])
  -- triangle 1, across halfedge 1, is flat
  pub by_zero : sharpened (0 ∷ 1 ∷ []) ≡ with_first (zero ∷ zero ∷ zero ∷ zero ∷ [])
