-- The entries of a crease listing in two lent lists. Any rule `crease` for one edge can decide.
use Rattle.std.specs.Prelude.{ℕ, ◌+◌, List, Bool, cond, set, Float}
use Rattle.mesh.specs.Mesh.{paired_halfedge, Halfedges}
use Rattle.common.specs.Fold.{fold_to}

-- the lists, and the number of entries so far
pub record Entries : Type 0 where
  pub halfedges : List ℕ
  pub smoothness : List Float
  pub count : ℕ

abbrev pub entries_in : List ℕ → List Float → ℕ → Entries
entries_in I Q k = record { halfedges = I; smoothness = Q; count = k }

-- `out.push(Smoothness { halfedge, smoothness })`: the entry at the next place
unfoldable pub push_entry : Entries → ℕ → Float → Entries
push_entry s e smooth = record {
  halfedges = set s.halfedges s.count e;
  smoothness = set s.smoothness s.count smooth;
  count = s.count + 1;
}

-- halfedge e, then its pair
unfoldable pub push_edge : Halfedges → Float → Entries → ℕ → Entries
push_edge H smooth s e = push_entry (push_entry s e smooth) (paired_halfedge H e) smooth

-- one turn of the Rust's loop
unfoldable pub list_edge : Halfedges → (ℕ → Bool) → Float → Entries → ℕ → Entries
list_edge H crease smooth s e = cond (crease e) (push_edge H smooth s e) s

-- the loop over n halfedges
abbrev pub list_edges : Halfedges → (ℕ → Bool) → Float → Entries → ℕ → Entries
list_edges H crease smooth s n = fold_to (list_edge H crease smooth) s n
