-- Worked cases of spreading's two walks: in the second, a fixed halfedge other than the start ends the walk before its mark is read, and only in the first is the mark read first. The stated side has literals only; the unchanged Rust gives the same.
use Rattle.std.specs.Prelude.{ℕ, List, [], ◌∷◌, ◌++◌, map, replicate, ℤ, pos, Float, Ok}
use Rattle.std.specs.Float.{binary64}
use Rattle.std.specs.Float.Ieee.{of_bits}
use Rattle.float.specs.Ops.{zero, one}
use Rattle.mesh.specs.Mesh.{as_halfedges}
use Rattle.distribute.specs.Distribute.{distribute_tangents, tangents_after}
use Rattle.cases.specs.Lines.{Value, Line, counts, tangents, minus, ◌is◌, AllHold}

-- Two squares back to back: points (0,0,0), (1,0,0), (1,1,0), (0,1,0), each square with its diagonal from point 0. Start, end, pair and row (its own number) of the halfedges 0 to 11; the round of point 0 is 0, 6, 9, 3.
abbrev pub square : List ℤ
square =
    map pos
    (0 ∷ 1 ∷ 8 ∷ 0
    ∷ 1 ∷ 2 ∷ 7 ∷ 1
    ∷ 2 ∷ 0 ∷ 3 ∷ 2
    ∷ 0 ∷ 2 ∷ 2 ∷ 3
    ∷ 2 ∷ 3 ∷ 10 ∷ 4
    ∷ 3 ∷ 0 ∷ 9 ∷ 5
    ∷ 0 ∷ 2 ∷ 11 ∷ 6
    ∷ 2 ∷ 1 ∷ 1 ∷ 7
    ∷ 1 ∷ 0 ∷ 0 ∷ 8
    ∷ 0 ∷ 3 ∷ 5 ∷ 9
    ∷ 3 ∷ 2 ∷ 4 ∷ 10
    ∷ 2 ∷ 0 ∷ 6 ∷ 11
    ∷ [])

abbrev pub corners : List Float
corners = zero ∷ zero ∷ zero ∷ one ∷ zero ∷ zero ∷ one ∷ one ∷ zero ∷ zero ∷ one ∷ zero ∷ []

-- (0,0,1) at each point
abbrev pub upwards : List Float
upwards = zero ∷ zero ∷ one ∷ zero ∷ zero ∷ one ∷ zero ∷ zero ∷ one ∷ zero ∷ zero ∷ one ∷ []

-- a tangent of direction 0 and weight 1
abbrev pub plain : List Float
plain = zero ∷ zero ∷ zero ∷ one ∷ []

-- the tangents of the round, of directions (1,0,0) at 0, (0,1,0) at 6, (-1,0,0) at 9, (0,-1,1) at 3, with these weights at 6 and 9; the others are plain
abbrev pub lent : Float → Float → List Float
lent b c =
    (one ∷ zero ∷ zero ∷ one ∷ []) ++ plain ++ plain
    ++ (zero ∷ minus ∷ one ∷ one ∷ []) ++ plain ++ plain
    ++ (zero ∷ one ∷ zero ∷ b ∷ []) ++ plain ++ plain
    ++ (minus ∷ zero ∷ zero ∷ c ∷ []) ++ plain ++ plain

-- halfedge 0 is fixed, and 6 and 9 as given
abbrev pub fixed : ℕ → ℕ → List ℕ
fixed b c = 1 ∷ 0 ∷ 0 ∷ 0 ∷ 0 ∷ 0 ∷ b ∷ 0 ∷ 0 ∷ c ∷ 0 ∷ 0 ∷ []

abbrev pub angles : List Float
angles = replicate 12 zero

abbrev pub spreading : List ℕ → List Float → Value
spreading X T = counts (distribute_tangents (as_halfedges square) corners upwards X T angles angles 12 4)

abbrev pub spread_tangents : List ℕ → List Float → Value
spread_tangents X T = tangents (tangents_after (as_halfedges square) corners upwards X T angles angles 12 4)

-- 9 is fixed and marked. The first walk from 0 reads its mark, and goes past it to 3 and 0: looked 4. The second turns 6 and ends at 9: turned 1. One that read the mark first would go on and turn 3 and 0.
abbrev pub marked_in_an_arc : List Line
marked_in_an_arc =
    (spreading (fixed 0 1) (lent one minus) is counts (Ok (record { looked = 4; turned = 1 })))
    ∷ (spread_tangents (fixed 0 1) (lent one minus)
    is tangents
    (map (of_bits binary64)
    (0x3ff0000000000000 ∷ 0x0000000000000000 ∷ 0x0000000000000000 ∷ 0x3ff0000000000000
    ∷ 0x0000000000000000 ∷ 0x0000000000000000 ∷ 0x0000000000000000 ∷ 0x3ff0000000000000
    ∷ 0x0000000000000000 ∷ 0x0000000000000000 ∷ 0x0000000000000000 ∷ 0x3ff0000000000000
    ∷ 0x0000000000000000 ∷ 0xbff0000000000000 ∷ 0x3ff0000000000000 ∷ 0x3ff0000000000000
    ∷ 0x0000000000000000 ∷ 0x0000000000000000 ∷ 0x0000000000000000 ∷ 0x3ff0000000000000
    ∷ 0x0000000000000000 ∷ 0x0000000000000000 ∷ 0x0000000000000000 ∷ 0x3ff0000000000000
    ∷ 0x3fefb2f5f4488f5c ∷ 0x3fc059c4f63b35c2 ∷ 0xbfa918a37c047430 ∷ 0x3ff0000000000000
    ∷ 0x0000000000000000 ∷ 0x0000000000000000 ∷ 0x0000000000000000 ∷ 0x3ff0000000000000
    ∷ 0x0000000000000000 ∷ 0x0000000000000000 ∷ 0x0000000000000000 ∷ 0x3ff0000000000000
    ∷ 0xbff0000000000000 ∷ 0x0000000000000000 ∷ 0x0000000000000000 ∷ 0xbff0000000000000
    ∷ 0x0000000000000000 ∷ 0x0000000000000000 ∷ 0x0000000000000000 ∷ 0x3ff0000000000000
    ∷ 0x0000000000000000 ∷ 0x0000000000000000 ∷ 0x0000000000000000 ∷ 0x3ff0000000000000
    ∷ [])))
    ∷ []

-- 9 is marked and not fixed: both walks go past it, and the second turns 6, 3 and 0.
abbrev pub marked_only : List Line
marked_only = (spreading (fixed 0 0) (lent one minus) is counts (Ok (record { looked = 4; turned = 3 }))) ∷ []

-- 6 is fixed and marked. The first walk goes past it; one that read the flag first would end there, with looked 1. The second ends there and turns nothing.
abbrev pub marked_at_once : List Line
marked_at_once = (spreading (fixed 1 0) (lent minus one) is counts (Ok (record { looked = 4; turned = 0 }))) ∷ []

-- 9 is fixed and not marked: the first walk from 0 ends there, and so does the second, after 6; those from 9 go on to 3 and 0.
abbrev pub fixed_only : List Line
fixed_only = (spreading (fixed 0 1) (lent one one) is counts (Ok (record { looked = 4; turned = 2 }))) ∷ []

abbrev pub traps : List Line
traps = marked_in_an_arc ++ marked_only ++ marked_at_once ++ fixed_only

-- THE CLAIM, of these
abbrev pub TrapsHold : Type 0
TrapsHold = AllHold traps 5
