-- Creases at the pillow's points: the order of the pairs at a point, and what they are to it.
use Rattle.std.specs.Prelude.{ℕ, ◌≡◌, List, [], ◌∷◌, Float}
use Rattle.float.specs.Ops.{zero, half, one, lit}
use Rattle.common.specs.Pillow.{pillow}
use Rattle.mesh.specs.Mesh.{as_halfedges}
use Rattle.create.specs.declared.sharp.Smoothness.{Smoothness}
use Rattle.create.specs.Edges.Edges.{Pair, side_of, pair_of, edges_of}
use Rattle.create.specs.Creases.Creases.{vert_tangents, crease_of}
use Rattle.create.specs.declared.creases.Crease.TheVariants.{NoCrease, OneEnd, Through, Meeting}
use Rattle.cases.specs.Entries.{quarter}

-- 5/8 and 3/4
abbrev pub five_eighths : Float
five_eighths = lit 0x3fe4_0000_0000_0000

abbrev pub three_quarters : Float
three_quarters = lit 0x3fe8_0000_0000_0000

-- the edges 0-2, with 1/2 at halfedge 3, and 1-2, with 1/4 at halfedge 1
abbrev pub entries : List Smoothness
entries = side_of 3 half ∷ side_of 1 quarter ∷ []

-- the pairs at a point
abbrev pub pairs : List Smoothness → ℕ → List Pair
pairs entries point = vert_tangents (as_halfedges pillow) (edges_of (as_halfedges pillow) entries) 6 point

-- of the edges 1-2 and 0-2, first that which starts at point 2
abbrev pub along_1_2 : Pair
along_1_2 = pair_of (side_of 4 one) (side_of 1 quarter)

abbrev pub along_0_2 : Pair
along_0_2 = pair_of (side_of 2 one) (side_of 3 half)

pub record CreasesHold : Type 0 where
  -- at point 2 they are the halfedges 4 and 2: their forward halfedges 1 and 3 ascend, they themselves do not
  pub ascending : pairs entries 2 ≡ along_1_2 ∷ along_0_2 ∷ []
  pub goes_through : crease_of (pairs entries 2) ≡ Through 4 2 five_eighths three_quarters
  pub ends : crease_of (pairs entries 0) ≡ OneEnd
  pub no_creases : crease_of (pairs [] 0) ≡ NoCrease
  -- three creases (as if they met): the sum of 1, 1/4, 1, 1/2, 1/4 and 0, divided by 5
  pub meets : crease_of (along_1_2 ∷ along_0_2 ∷ pair_of (side_of 0 quarter) (side_of 5 zero) ∷ []) ≡ Meeting (lit 0x3fe3_3333_3333_3333)
