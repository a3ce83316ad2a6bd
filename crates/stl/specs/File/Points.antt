-- The points of a file: corners with equal bits are one point, and points are numbered by first appearance. s are the file's bytes, c is a corner.
use Rattle.std.specs.Prelude.{ℕ, List, Bool, not, ◌&&◌, eqb}
use Rattle.common.specs.Count.{count_below}
use Rattle.common.specs.Lowest.{lowest}
use Rattle.stl.specs.File.File.{halfedge_count, corner_at}
use Rattle.stl.specs.declared.file.Corner.{Corner}

-- equal bits
unfoldable pub same_corner : Corner → Corner → Bool
same_corner a b = eqb a.x b.x && (eqb a.y b.y && eqb a.z b.z)

-- the corners i and j are one point
unfoldable pub same_point : List ℕ → ℕ → ℕ → Bool
same_point s i j = same_corner (corner_at s i) (corner_at s j)

-- the first corner that is one point with c
unfoldable pub first_of : List ℕ → ℕ → ℕ
first_of s c = lowest (λ j. not (same_point s j c)) c

-- c is the first appearance of its point
unfoldable pub is_first : List ℕ → ℕ → Bool
is_first s c = eqb (first_of s c) c

-- the number of its point: how many points appear before that one does
unfoldable pub point_of : List ℕ → ℕ → ℕ
point_of s c = count_below (is_first s) (first_of s c)

unfoldable pub point_count : List ℕ → ℕ
point_count s = count_below (is_first s) (halfedge_count s)

-- the corner at which point v first appears
unfoldable pub corner_of : List ℕ → ℕ → ℕ
corner_of s v = lowest (λ c. not (is_first s c && eqb (count_below (is_first s) c) v)) (halfedge_count s)
