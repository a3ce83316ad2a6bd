-- The program on the pillow: the bytes that it writes for the bytes that it reads. The stated side has ASCII texts, and the code of each character in them.
use Rattle.std.specs.Prelude.{ℕ, ◌≡◌, List, [], ◌∷◌, ◌++◌, replicate}
use Rattle.common.specs.Pillow.{straightened_bits}
use Rattle.cases.specs.Bytes.{numbers, record_of, pillow_records}
use Rattle.program.specs.Lines.Text.{ascii}
use Rattle.program.specs.Program.{output_of}

-- the bytes of the straightened tangents
abbrev pub straightened : List ℕ
straightened = numbers 8 straightened_bits

-- the listing of these
abbrev pub tangents : List ℕ
tangents = ascii "tangents 6\n0 3ff0000000000000 0000000000000000 0000000000000000 3ff0000000000000\n1 bff0000000000000 4000000000000000 0000000000000000 3ff0000000000000\n2 8000000000000000 c000000000000000 8000000000000000 3ff0000000000000\n3 0000000000000000 4000000000000000 0000000000000000 3ff0000000000000\n4 3ff0000000000000 c000000000000000 8000000000000000 3ff0000000000000\n5 bff0000000000000 8000000000000000 8000000000000000 3ff0000000000000\n"

-- THE CLAIM, of one input for each operation, and one for an operation that there is not
pub record ListingHolds : Type 0 where
  pub codes : ascii "\n 01234568abcdefgiklnorstuv" ≡ 10 ∷ 32 ∷ 48 ∷ 49 ∷ 50 ∷ 51 ∷ 52 ∷ 53 ∷ 54 ∷ 56 ∷ 97 ∷ 98 ∷ 99 ∷ 100 ∷ 101 ∷ 102 ∷ 103 ∷ 105 ∷ 107 ∷ 108 ∷ 110 ∷ 111 ∷ 114 ∷ 115 ∷ 116 ∷ 117 ∷ 118 ∷ []
  -- straightening tangents that are all 0
  pub straightening : output_of (pillow_records 1 (replicate 192 0)) ≡ tangents
  -- spreading the straightened ones, point normals all 0, the flag on 0 only
  pub spreading : output_of (pillow_records 2 straightened ++ record_of 6 (replicate 72 0) ++ record_of 7 (1 ∷ 0 ∷ 0 ∷ 0 ∷ 0 ∷ 0 ∷ [])) ≡ tangents ++ ascii "looked 2 turned 0\n"
  pub checking : output_of (pillow_records 3 straightened) ≡ ascii "valid 1\n"
  -- there is no operation 4
  pub refusing : output_of (pillow_records 4 straightened) ≡ ascii "refused 23 0\n"
