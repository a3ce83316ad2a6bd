-- Lists of halfedges that differ in their rows alone, and what reads no row.
use Rattle.std.specs.Prelude.{ℕ, ◌*◌, ◌<◌, ◌≡◌, List, length, ℤ}
use Rattle.mesh.specs.Mesh.{halfedge_stride, number_at, Halfedges, as_halfedges}

-- two lists of n halfedges that agree in start, end and pair of each, the numbers 0, 1 and 2
pub record SameButRows (list other : List ℤ) (n : ℕ) : Type 0 where
  pub whole : length list ≡ n * halfedge_stride
  pub other_whole : length other ≡ n * halfedge_stride
  pub agree : (e k : ℕ) → e < n → k < 3 → number_at list e halfedge_stride k ≡ number_at other e halfedge_stride k

-- THE CLAIM of a value that a contract names, a function of the halfedges: it is the same for any two such lists, so the rows are carried unread
unfoldable pub RowsUnread : {X : Type 0} → (Halfedges → X) → Type 0
RowsUnread f = (list other : List ℤ) (n : ℕ) → SameButRows list other n → f (as_halfedges list) ≡ f (as_halfedges other)
