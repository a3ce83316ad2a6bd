-- On an accepted mesh the lent lists hold what `create_shared` reads and writes. Assumes nothing.
use Prim.Native.Nat.{ℕ, ◌*◌}
use mathlib.Core.Path.{◌≡◌, sym, subst}
use Rattle.mesh.specs.Mesh.{halfedge_stride, Halfedges}
use Rattle.mesh.specs.Sound.{Sound}
use Rattle.mesh.proofs.Inside.{inside}
use Rattle.smoothing.specs.Lent.{FlatIn, VertsIn}

pub flat_in : (H : Halfedges) (n p : ℕ) → Sound H n p → H.numbers ≡ n * halfedge_stride → FlatIn H n
flat_in H n p s whole = record { triangles = s.triangles; paired_in = s.paired_below; inside = inside s whole }

pub verts_in : (H : Halfedges) (n p : ℕ) → Sound H n p → H.numbers ≡ n * halfedge_stride → VertsIn H n p
verts_in H n p s whole = record { start_in = s.start_below; inside = inside s whole }

-- a list that keeps its length
pub verts_still : (H : Halfedges) (n a b : ℕ) → b ≡ a → VertsIn H n a → VertsIn H n b
verts_still H n a b q f = subst (VertsIn H n) (sym q) f
