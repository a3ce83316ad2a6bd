-- What a crease listing's entries are, by any rule for one edge: two for each edge that is listed. Assumes nothing.
use Prim.Native.Nat.{ℕ, zero, suc, ◌*◌}
use native.Mathlib.Omega.{arith}
use mathlib.Core.Path.{◌≡◌, refl}
use mathlib.Core.List.{List}
use mathlib.Core.Bool.{Bool, true, false}
use lib.Ieee.{Float}
use Rattle.common.specs.Fold.{fold_to}
use Rattle.common.specs.Count.{sum, count_below}
use Rattle.mesh.specs.Mesh.{Halfedges}
use Rattle.sharpen.specs.Entries.{entries_in, push_entry, push_edge, list_edge, list_edges}

module _ (E : List ℕ) (S : List Float) where
  module _ (H : Halfedges) (crease : ℕ → Bool) (smooth : Float) where
    -- the entries are twice the edges listed
    pub entries_twice : (n : ℕ) → (list_edges H crease smooth (entries_in E S 0) n).count ≡ 2 * count_below crease n
    unfolding fold_to list_edge push_edge push_entry sum count_below
    entries_twice zero = refl
    entries_twice (suc n) = go (crease n) refl (entries_twice n)
      where
        go : (b : Bool) → crease n ≡ b → (list_edges H crease smooth (entries_in E S 0) n).count ≡ 2 * count_below crease n → (list_edges H crease smooth (entries_in E S 0) (suc n)).count ≡ 2 * count_below crease (suc n)
        go true e ih = rw e (omega arith)
        go false e ih = rw e (omega arith)
