-- The code's means: a list of flags for the halfedges inside a quad. The Rust reads the old weights while it makes the new tangents; in the code these take the place of the old ones, so it notes first which halfedges are inside a quad. Only contracts of functions inside the making cite these definitions; `proofs/WholeLaws/Flags.antt` says that a flag is what `is_inside_quad` says. H are the halfedges, R the face references, T the tangents as lent, `old` whether these are old tangents, n how many halfedges there are.
use Rattle.std.specs.Prelude.{ℕ, List, Bool, true, false, cond, set, replicate, ℤ, Float}
use Rattle.common.specs.Fold.{fold_to}
use Rattle.mesh.specs.Mesh.{Halfedges, as_halfedges}
use Rattle.smoothing.specs.Edges.{is_inside_quad}
use Rattle.smoothing.specs.Inner.{put_edge}
use Rattle.create_from_normals.specs.declared.whole.quad_lists.QuadLists.{QuadLists}

-- the flag of halfedge e: 1 if it is inside a quad, else 0
unfoldable pub quad_flag : Halfedges → List ℤ → List Float → Bool → ℕ → ℕ
quad_flag H R T old e = cond (is_inside_quad H R T old e) 1 0

unfoldable pub inside_quad_at : Halfedges → List ℤ → List Float → Bool → List ℕ → ℕ → List ℕ
inside_quad_at H R T old B e = set B e (quad_flag H R T old e)

-- the flags of all halfedges
unfoldable pub inside_quads : Halfedges → List ℤ → List Float → Bool → ℕ → List ℕ
inside_quads H R T old n = fold_to (inside_quad_at H R T old) (replicate n 0) n

-- the body of the code's loop: without old tangents it writes the flags edge by edge
unfoldable pub inside_quad_step : Halfedges → List ℤ → List Float → Bool → List ℕ → ℕ → List ℕ
inside_quad_step H R T old B e = cond old (inside_quad_at H R T true B e) (put_edge set H (quad_flag H R T false) B e)

-- ---- at `QuadLists`

abbrev pub halfedges_of : QuadLists → Halfedges
halfedges_of l = as_halfedges l.mesh.h.now

abbrev pub quad_flag_by : QuadLists → Bool → ℕ → ℕ
quad_flag_by l old e = quad_flag (halfedges_of l) l.mesh.refs.now l.t.now old e
