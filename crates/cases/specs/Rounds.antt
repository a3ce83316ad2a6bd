-- The rounds of the pillow's points: {0, 3}, {1, 5} and {2, 4}, from each halfedge on in the order of the walk.
use Rattle.std.specs.Prelude.{◌≡◌, [], ◌∷◌, map}
use Rattle.common.specs.Pillow.{pillow}
use Rattle.mesh.specs.Mesh.{as_halfedges}
use Rattle.cycles.specs.Cycles.{vertex_cycle, vertex_cycle_back}

pub record RoundsHold : Type 0 where
  pub rounds : map (vertex_cycle (as_halfedges pillow) 6) (0 ∷ 1 ∷ 2 ∷ 3 ∷ []) ≡ (0 ∷ 3 ∷ []) ∷ (1 ∷ 5 ∷ []) ∷ (2 ∷ 4 ∷ []) ∷ (3 ∷ 0 ∷ []) ∷ []
  pub backward : vertex_cycle_back (as_halfedges pillow) 6 0 ≡ 0 ∷ 3 ∷ []
