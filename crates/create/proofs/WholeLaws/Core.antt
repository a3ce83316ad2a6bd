-- What `make_tangents` leaves, from what its calls leave. Assumes nothing.
use Prim.Native.Nat.{ℕ}
use mathlib.Core.Path.{◌≡◌, ap, ◌∙◌}
use mathlib.Core.List.{List}
use mathlib.Core.Bool.{Bool}
use lib.IntN.{ℤ}
use lib.Ieee.{Float}
use Rattle.mesh.specs.Mesh.{Halfedges}
use Rattle.smoothing.specs.Edges.{is_inside_quad}
use Rattle.create_shared.specs.Makings.{Tangents, tangents_of}
use Rattle.create.specs.Whole.Shape.{shaped_tangents}
use Rattle.create.specs.Whole.Lent.{pairs_of}
use Rattle.linearize.specs.Linearize.{linearize_flat_tangents}
use Rattle.distribute.specs.Distribute.{spread_tangents}
use Rattle.create.specs.Whole.Core.{create_with}
use Rattle.create.specs.Whole.Filled.{create_filled}

-- the tangents U, where T and X are the tangents and the fixed flags before straightening, and O and S the tangents and the smoothness as lent
pub created : (H : Halfedges) (P N A : List Float) (R : List ℤ) (S O : List Float) (old : Bool) (n p : ℕ) {T : List Float} {X : List ℕ} {U : List Float}
    → tangents_of T X ≡ shaped_tangents H P N A R (is_inside_quad H R O old) (pairs_of H R S n) n p → U ≡ (spread_tangents H P N X (linearize_flat_tangents H P T n) n).tangents
    → U ≡ create_filled H P N A R S O old n p
unfolding create_filled create_with
created H P N A R S O old n p {T} {X} {U} e u =
    u ∙ ap (λ (m : Tangents). (spread_tangents H P N m.fixed (linearize_flat_tangents H P m.tangents n) n).tangents) e
