-- `create_tangents` by its scratch lists. Only contracts inside a call name these; `filled_same` of `proofs/WholeLaws/Filled.antt` says that the tangents are those of `create_tangents`, and the count that of `create_directionless`.
use Rattle.std.specs.Prelude.{ℕ, ◌≡◌, List, Bool, length, ℤ, Float}
use Rattle.mesh.specs.Mesh.{Halfedges}
use Rattle.create.specs.Whole.Lent.{CreateLists, pairs_of}
use Rattle.create.specs.Whole.Core.{create_with, directionless_with}

-- the lists that an accepted call writes: X, F, M, D, W and L are the scratch lists `fixed`, `flat`, `smooth`, `desired`, `at` and `link`
pub record Lists (T : List Float) (X F : List ℕ) (M D : List Float) (W L : List ℕ) (n p : ℕ) : Type 0 where
  pub lists : CreateLists T X F M W L n p
  pub desired : length D ≡ n

-- the tangents, where M holds the smoothness of the entries
unfoldable pub create_filled : Halfedges → List Float → List Float → List Float → List ℤ → List Float → List Float → Bool → ℕ → ℕ → List Float
create_filled H P N A R M T old n p = create_with H P N A R (pairs_of H R M n) T old n p

-- and the count
unfoldable pub filled_directionless : Halfedges → List Float → List ℤ → List Float → List Float → Bool → ℕ → ℕ → ℕ
filled_directionless H P R M T old n p = directionless_with H P R (pairs_of H R M n) T old n p
