-- What the writing of points and starts goes by. Only contracts inside `points` cite these. F is the file, P is the list of positions, L that of halfedges.
use Rattle.std.specs.Prelude.{ℕ, ◌+◌, ◌*◌, ◌≤◌, ◌<◌, ◌≡◌, List, length, set, ℤ, Float}
use Rattle.common.specs.Count.{count_below}
use Rattle.mesh.specs.Mesh.{halfedge_stride}
use Rattle.little_endian.specs.Filled.{filled}
use Rattle.stl.specs.File.Points.{is_first}
use Rattle.stl.specs.File.Lists.{coordinate, point_item}
use Rattle.stl.specs.File.Starts.{Starts, Further}
use Rattle.stl.specs.declared.file.Corner.{Corner}
use Rattle.stl.specs.declared.file.File.{File}
use Rattle.stl.specs.declared.table.Keys.TheVariants.{Points}
use Rattle.stl.specs.declared.table.block.Block.{Block}
use Rattle.stl.specs.Points.Firsts.{Marked}

-- the list with the three numbers of a corner as point v
unfoldable pub put_point : List Float → ℕ → Corner → List Float
put_point P v corner = set (set (set P (3 * v) (coordinate corner 0)) (3 * v + 1) (coordinate corner 1)) (3 * v + 2) (coordinate corner 2)

-- the corners below c have v points, which stand in P', and the starts of these corners in L'; all else in the lists stays as in P and L
pub record Written (F : File) (c v : ℕ) (P P' : List Float) (L L' : List ℤ) : Type 0 where
  pub counted : v ≡ count_below (is_first F.bytes.now) c
  pub pos : P' ≡ filled (point_item F.bytes.now) (3 * v) P
  pub starts : Starts F.bytes.now c L'
  pub further : Further (3 * F.triangles * halfedge_stride) L L'

-- what the start of the block's halfedge k asks for, after v points
pub record CanStart (B : Block) (first : List ℕ) (k v : ℕ) (P : List Float) (L : List ℤ) : Type 0 where
  pub points_keys : B.keys ≡ Points
  pub marked : Marked B 0 first
  pub long : B.count ≤ length first
  pub inside : k < B.count
  pub written : Written B.file (B.lo + k) v P P L L
  pub pos_room : 9 * B.file.triangles ≤ length P
  pub h_room : 12 * B.file.triangles ≤ length L
