-- The sharp entries as a list of structs, and as two flat lists.
use Rattle.std.specs.Prelude.{ℕ, List, [], ◌∷◌, map, Float}
use Rattle.create.specs.declared.sharp.Smoothness.{Smoothness}

-- the two flat lists of the entries E
abbrev pub halfedges_of : List Smoothness → List ℕ
halfedges_of E = map (λ e. e.halfedge) E

abbrev pub smoothness_of : List Smoothness → List Float
smoothness_of E = map (λ e. e.smoothness) E

-- the entries of two flat lists
abbrev pub entries_of : List ℕ → List Float → List Smoothness
entries_of [] Q = []
entries_of (e ∷ I) [] = []
entries_of (e ∷ I) (s ∷ Q) = record { halfedge = e; smoothness = s } ∷ entries_of I Q
