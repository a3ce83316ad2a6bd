-- The flat faces at each point by the scratch list W that holds them, and which of them are in reach. Only contracts inside a call name these.
use Rattle.std.specs.Prelude.{ℕ, ◌*◌, ◌+◌, ◌≤◌, ◌≡◌, List, get_or}
use Rattle.smoothing.specs.declared.faces.FlatFace.{FlatFace}
use Rattle.smoothing.specs.declared.faces.FlatFace.TheVariants.{OneFace}
use Rattle.smoothing.specs.Lent.{face_of}

-- those at point v
abbrev pub face_at : List ℕ → ℕ → FlatFace
face_at W v = face_of (get_or W v 0)

-- the triangle of a point's one flat face is one of the n / 3
abbrev pub FaceIn : ℕ → FlatFace → Type 0
FaceIn n face = (t : ℕ) → face ≡ OneFace t → t * 3 + 3 ≤ n
