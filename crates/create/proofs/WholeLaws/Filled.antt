-- The scratch list that holds the smoothness of the entries says what the Rust's maps say: `filled_same`. And the bound of the count. Assumes nothing.
use Prim.Native.Nat.{ℕ, ◌*◌, ◌≤◌}
use mathlib.Core.Path.{◌≡◌, refl, sym, ap, ◌∙◌, subst}
use mathlib.Core.List.{List}
use mathlib.Core.Bool.{Bool}
use lib.IntN.{ℤ}
use lib.Ieee.{Float}
use Rattle.mesh.specs.Mesh.{Halfedges}
use Rattle.mesh.specs.Sound.{Sound}
use Rattle.smoothing.specs.Faces.{flat_faces, is_flat}
use Rattle.create.specs.declared.sharp.Smoothness.{Smoothness}
use Rattle.create.specs.Sharp.EntrySmoothness.{EntriesIn, entry_smoothness}
use Rattle.create.specs.Edges.Edges.{Pair, sharpened_edges, edges_of}
use Rattle.create.specs.Edges.Smoothness.{smoothness}
use Rattle.create.proofs.EdgesLaws.Edges.{same_map}
use Rattle.create.proofs.CreasesLaws.Verts.{vert_tangents_lem}
use Rattle.create.specs.Whole.Lent.{pairs_of}
use Rattle.create.specs.Whole.Core.{create_with, directionless_with, verts_of, create_tangents, create_directionless}
use Rattle.create.specs.Whole.Filled.{create_filled, filled_directionless}
use Rattle.create.proofs.WholeLaws.Shape.{with_within}

-- S holds the smoothness of the entries E
module _ {H : Halfedges} {n p : ℕ} (sound : Sound H n p) (R : List ℤ) (E : List Smoothness) (fits : EntriesIn E n) {S : List Float} {m : ℕ} (places : m ≡ n) (filled : S ≡ entry_smoothness E m) where
  abbrev flat : ℕ → Bool
  flat = is_flat (flat_faces H R n)

  pairs_same : pairs_of H R S n ≡ verts_of H R E n
  pairs_same =
      ap (λ (M : List Float). pairs_of H R M n) (filled ∙ ap (entry_smoothness E) places)
      ∙ sym (λ i v. vert_tangents_lem sound (smoothness H R flat (entry_smoothness E n) n) (edges_of H (sharpened_edges H R flat E n)) (same_map sound R flat E fits) v i)

  -- the tangents, and the count
  pub filled_same : (P N A T : List Float) (old : Bool)
      → (create_filled H P N A R S T old n p ≡ create_tangents H P N A R E T old n p) × (filled_directionless H P R S T old n p ≡ create_directionless H P R E T old n p)
  unfolding create_filled create_tangents filled_directionless create_directionless
  filled_same P N A T old = (ap (λ (vert : ℕ → List Pair). create_with H P N A R vert T old n p) pairs_same, ap (λ (vert : ℕ → List Pair). directionless_with H P R vert T old n p) pairs_same)

-- the count is at most 2 for each halfedge
pub create_within : {H : Halfedges} {n p : ℕ} → Sound H n p → (R : List ℤ) (E : List Smoothness) → EntriesIn E n → (P T : List Float) (old : Bool) → create_directionless H P R E T old n p ≤ 2 * n
unfolding create_directionless
create_within {H} {n} {p} sound R E fits P T old =
    subst (λ (vert : ℕ → List Pair). directionless_with H P R vert T old n p ≤ 2 * n) (pairs_same sound R E fits refl refl) (with_within sound R (entry_smoothness E n) P T old)
