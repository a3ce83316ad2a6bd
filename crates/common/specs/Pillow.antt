-- The pillow: three points, two triangles back to back; and the bits of its straightened tangents. The worked cases of the crates above are made of these.
use Rattle.std.specs.Prelude.{ℕ, List, [], ◌∷◌, map, ℤ, pos, Float}
use Rattle.std.specs.Float.{binary64}
use Rattle.std.specs.Float.Ieee.{of_bits}

abbrev pub points : ℕ
points = 3

abbrev pub halfedges : ℕ
halfedges = 6

-- start, end, pair and row of the halfedges 0 to 5; halfedge 0 has the pair that is handed in, and each its own number as row
abbrev pub halfedge_numbers : ℕ → List ℕ
halfedge_numbers pair =
    0 ∷ 1 ∷ pair ∷ 0 ∷ 1 ∷ 2 ∷ 4 ∷ 1 ∷ 2 ∷ 0 ∷ 3 ∷ 2
    ∷ 0 ∷ 2 ∷ 2 ∷ 3 ∷ 2 ∷ 1 ∷ 1 ∷ 4 ∷ 1 ∷ 0 ∷ 0 ∷ 5 ∷ []

-- the same as a mesh
abbrev pub pillow_with : ℕ → List ℤ
pillow_with pair = map pos (halfedge_numbers pair)

abbrev pub pillow : List ℤ
pillow = pillow_with 5

-- its two triangles are two faces
abbrev pub refs : List ℤ
refs = map pos (1 ∷ 0 ∷ 0 ∷ 1 ∷ 1 ∷ 1 ∷ [])

-- the bits of (0,0,0), (3,0,0), (0,6,0)
abbrev pub position_bits : List ℕ
position_bits = 0 ∷ 0 ∷ 0 ∷ 0x4008_0000_0000_0000 ∷ 0 ∷ 0 ∷ 0 ∷ 0x4018_0000_0000_0000 ∷ 0 ∷ []

-- the bits of the straightened tangents
abbrev pub straightened_bits : List ℕ
straightened_bits =
    0x3ff0000000000000 ∷ 0x0000000000000000 ∷ 0x0000000000000000 ∷ 0x3ff0000000000000
    ∷ 0xbff0000000000000 ∷ 0x4000000000000000 ∷ 0x0000000000000000 ∷ 0x3ff0000000000000
    ∷ 0x8000000000000000 ∷ 0xc000000000000000 ∷ 0x8000000000000000 ∷ 0x3ff0000000000000
    ∷ 0x0000000000000000 ∷ 0x4000000000000000 ∷ 0x0000000000000000 ∷ 0x3ff0000000000000
    ∷ 0x3ff0000000000000 ∷ 0xc000000000000000 ∷ 0x8000000000000000 ∷ 0x3ff0000000000000
    ∷ 0xbff0000000000000 ∷ 0x8000000000000000 ∷ 0x8000000000000000 ∷ 0x3ff0000000000000
    ∷ []

-- the floats of bit patterns
abbrev pub floats_of : List ℕ → List Float
floats_of bits = map (of_bits binary64) bits

abbrev pub positions : List Float
positions = floats_of position_bits

abbrev pub straightened : List Float
straightened = floats_of straightened_bits
