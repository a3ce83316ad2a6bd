-- The bytes of numbers and of records, and the records of the pillow.
use Rattle.std.specs.Prelude.{ℕ, zero, suc, ◌/◌, ◌%◌, List, [], ◌∷◌, ◌++◌, length}
use Rattle.common.specs.Pillow.{points, halfedges, halfedge_numbers, position_bits}

-- the k bytes of a number, the lowest first
abbrev pub number : ℕ → ℕ → List ℕ
number zero n = []
number (suc k) n = n % 256 ∷ number k (n / 256)

abbrev pub numbers : ℕ → List ℕ → List ℕ
numbers k [] = []
numbers k (n ∷ ns) = number k n ++ numbers k ns

abbrev pub record_of : ℕ → List ℕ → List ℕ
record_of kind body = number 4 (length body) ++ number 2 kind ++ body

-- the pillow's records for an operation, with these bytes of tangents
abbrev pub pillow_records : ℕ → List ℕ → List ℕ
pillow_records operation tangents =
    record_of 1 (operation ∷ [])
    ++ record_of 2 (number 2 points ++ number 2 halfedges)
    ++ record_of 3 (numbers 8 position_bits)
    ++ record_of 4 (numbers 4 (halfedge_numbers 5))
    ++ record_of 5 tangents
