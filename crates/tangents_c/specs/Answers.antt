-- How an answer goes back through a lent list: the number of the refusal (0 where the call is accepted), its place, and the two numbers of an accepted call. Places that the list lacks are left out.
use Rattle.std.specs.Prelude.{ℕ, List, set}
use Rattle.questions.specs.Check.{Checked, number_of, place_of}
use Rattle.validate.specs.Validate.{Validity, value_of}
use Rattle.sharpen.specs.Sharpen.{Listing, entries_of, tally_of}
use Rattle.create_shared.specs.Answer.{Making, directionless_of}
use Rattle.stl.specs.Stl.{Reading, halfedges_of, points_of}
use Rattle.distribute.specs.Distribute.{Spreading, looked_of, turned_of}

unfoldable pub put : List ℕ → ℕ → ℕ → ℕ → ℕ → List ℕ
put answer number place first second = set (set (set (set answer 0 number) 1 place) 2 first) 3 second

-- straightening: no further numbers
abbrev pub put_checked : List ℕ → Checked → List ℕ
put_checked answer r = put answer (number_of r) (place_of r) 0 0

-- the mark check: 1 for yes, 0 for no
abbrev pub put_validity : List ℕ → Validity → List ℕ
put_validity answer r = put answer (number_of r) (place_of r) (value_of r) 0

-- a crease listing: the number of entries, and the tally
abbrev pub put_listing : List ℕ → Listing → List ℕ
put_listing answer r = put answer (number_of r) (place_of r) (entries_of r) (tally_of r)

-- spreading and its preview: looked and turned
abbrev pub put_spreading : List ℕ → Spreading → List ℕ
put_spreading answer r = put answer (number_of r) (place_of r) (looked_of r) (turned_of r)

-- the makings: how many circular tangents were computed on an edge without direction
abbrev pub put_making : List ℕ → Making → List ℕ
put_making answer r = put answer (number_of r) (place_of r) (directionless_of r) 0

-- the reading of STL: the numbers of halfedges and of points
abbrev pub put_reading : List ℕ → Reading → List ℕ
put_reading answer r = put answer (number_of r) (place_of r) (halfedges_of r) (points_of r)
