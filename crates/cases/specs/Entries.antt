-- Entries of the pillow's edges: those that are ignored, or that name a halfedge twice; and those that a flat face adds.
use Rattle.std.specs.Prelude.{ℕ, ◌≡◌, Bool, false, eqb, List, [], ◌∷◌, Float}
use Rattle.float.specs.Ops.{zero, half, one, two, lit}
use Rattle.common.specs.Pillow.{pillow, refs}
use Rattle.mesh.specs.Mesh.{as_halfedges}
use Rattle.create.specs.declared.sharp.Smoothness.{Smoothness}
use Rattle.create.specs.Edges.Edges.{Entry, side_of, pair_of, absent, present, sharpened_edges, edges_of}

-- 1/4
abbrev pub quarter : Float
quarter = lit 0x3fd0_0000_0000_0000

-- halfedge 5 is named twice, 1 is named with smoothness 1, 2 with 2
abbrev pub entries : List Smoothness
entries = side_of 5 half ∷ side_of 1 one ∷ side_of 5 quarter ∷ side_of 2 two ∷ []

-- halfedge 5 alone
abbrev pub one_entry : List Smoothness
one_entry = side_of 5 half ∷ []

-- which triangles are flat faces: none, and the first
abbrev pub none : ℕ → Bool
none t = false

abbrev pub first : ℕ → Bool
first t = eqb t 0

-- the entries with those that flat faces add
abbrev pub pushed : (ℕ → Bool) → List Smoothness → List Smoothness
pushed is_flat entries = sharpened_edges (as_halfedges pillow) refs is_flat entries 6

-- what is held of the edge that goes by this halfedge
abbrev pub edge : List Smoothness → ℕ → Entry
edge entries = edges_of (as_halfedges pillow) entries

pub record EntriesHold : Type 0 where
  -- no flat face: nothing is added
  pub unpushed : pushed none entries ≡ entries
  -- halfedge 5 goes by its forward halfedge, 0: the smaller smoothness holds, and the side that is not named has 1
  pub named : edge entries 0 ≡ present (pair_of (side_of 0 one) (side_of 5 quarter))
  -- the smoothness 1 is ignored
  pub ignored : edge entries 1 ≡ absent
  -- triangle 0 is a flat face: its three halfedges are at 0
  pub flat : pushed first one_entry ≡ side_of 5 half ∷ side_of 0 zero ∷ side_of 1 zero ∷ side_of 2 zero ∷ []
  -- and halfedge 2 goes by its forward halfedge, 3
  pub bounded : edge (pushed first one_entry) 3 ≡ present (pair_of (side_of 3 one) (side_of 2 zero))
