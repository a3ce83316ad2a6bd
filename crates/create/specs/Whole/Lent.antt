-- What the lists must be for a call inside `create_tangents`, and the pairs of each point by the scratch list that holds the smoothness of the caller's entries. Only contracts inside a call name these.
use Rattle.std.specs.Prelude.{ℕ, ◌*◌, ◌≡◌, List, length, ℤ, Float}
use Rattle.mesh.specs.Mesh.{Halfedges}
use Rattle.smoothing.specs.Faces.{flat_faces, is_flat}
use Rattle.create.specs.Edges.Edges.{Pair}
use Rattle.create.specs.Edges.Smoothness.{smoothness}
use Rattle.create.specs.Creases.Linked.{pairs_at}

-- T the tangents, X the fixed flags, F, M, W and L scratch: W has a place for each of the p points, the other three one for each of the n halfedges
pub record CreateLists (T : List Float) (X F : List ℕ) (M : List Float) (W L : List ℕ) (n p : ℕ) : Type 0 where
  pub tangents : length T ≡ n * 4
  pub fixed : length X ≡ n
  pub flat : length F ≡ n
  pub smooth : length M ≡ n
  pub points : length W ≡ p
  pub links : length L ≡ n

-- `vert_tangents`, where M holds the smoothness of the caller's entries
abbrev pub pairs_of : Halfedges → List ℤ → List Float → ℕ → ℕ → List Pair
pairs_of H R M n = pairs_at H (smoothness H R (is_flat (flat_faces H R n)) M n) n
