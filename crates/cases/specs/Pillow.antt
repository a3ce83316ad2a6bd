-- Lists of the exact lines on the pillow (crates/common/specs/Pillow.antt).
use Rattle.std.specs.Prelude.{List, [], ◌∷◌, replicate, Float}
use Rattle.float.specs.Ops.{zero}

-- all tangents 0
abbrev pub no_tangents : List Float
no_tangents = replicate 24 zero

-- tangents with direction 0 and these six weights
abbrev pub weighted : List Float → List Float
weighted [] = []
weighted (w ∷ ws) = zero ∷ zero ∷ zero ∷ w ∷ weighted ws

-- a normal for each point, all 0
abbrev pub zero_normals : List Float
zero_normals = replicate 9 zero

-- a scratch list, with a place for each halfedge
abbrev pub zero_angles : List Float
zero_angles = replicate 6 zero
