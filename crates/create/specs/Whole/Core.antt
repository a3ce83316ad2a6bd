-- `create_tangents` of src/smoothing_tangents.rs: the tangents that it leaves on an accepted mesh, and how many circular tangents it computes on an edge without direction. H are the halfedges, P the positions, N the point normals, A the face normals, R the face references, E the sharp entries, T the tangents as lent, `old` whether these are old tangents, n and p the counts of halfedges and points.
use Rattle.std.specs.Prelude.{ℕ, ◌+◌, List, Bool, ℤ, Float}
use Rattle.mesh.specs.Mesh.{Halfedges}
use Rattle.smoothing.specs.Edges.{is_inside_quad}
use Rattle.smoothing.specs.Faces.{flat_faces, is_flat}
use Rattle.create.specs.declared.sharp.Smoothness.{Smoothness}
use Rattle.create.specs.Edges.Edges.{Pair, sharpened_edges, edges_of}
use Rattle.create.specs.Creases.Creases.{vert_tangents}
use Rattle.create.specs.Initial.First.{firsts_directionless}
use Rattle.create.specs.Shapes.Shapes.{creases_directionless}
use Rattle.create.specs.Whole.Shape.{shaped_tangents}
use Rattle.linearize.specs.Linearize.{linearize_flat_tangents}
use Rattle.distribute.specs.Distribute.{spread_tangents}

-- `vert` is `vert_tangents`. Straightening and spreading follow what the creases do. Spreading goes by the point normals as lent, without the flat faces' normals that stood in for some of them, and by the halfedges that were fixed.
unfoldable pub create_with : Halfedges → List Float → List Float → List Float → List ℤ → (ℕ → List Pair) → List Float → Bool → ℕ → ℕ → List Float
create_with H P N A R vert T old n p =
    let m = shaped_tangents H P N A R (is_inside_quad H R T old) vert n p in
    (spread_tangents H P N m.fixed (linearize_flat_tangents H P m.tangents n) n).tangents

-- `vert_tangents` of the sharp entries
abbrev pub verts_of : Halfedges → List ℤ → List Smoothness → ℕ → ℕ → List Pair
verts_of H R E n =
    let sharpened = sharpened_edges H R (is_flat (flat_faces H R n)) E n in
    vert_tangents H (edges_of H sharpened) n

unfoldable pub create_tangents : Halfedges → List Float → List Float → List Float → List ℤ → List Smoothness → List Float → Bool → ℕ → ℕ → List Float
create_tangents H P N A R E T old n p = create_with H P N A R (verts_of H R E n) T old n p

-- ---- the count: the circular tangents that the making computes on an edge without direction, with those that a crease writes over

-- first the tangents that are not inside a quad, then both of each crease through a point. Straightening and spreading compute no circular tangent.
unfoldable pub directionless_with : Halfedges → List Float → List ℤ → (ℕ → List Pair) → List Float → Bool → ℕ → ℕ → ℕ
directionless_with H P R vert T old n p = firsts_directionless H P (is_inside_quad H R T old) n + creases_directionless H P vert p

unfoldable pub create_directionless : Halfedges → List Float → List ℤ → List Smoothness → List Float → Bool → ℕ → ℕ → ℕ
create_directionless H P R E T old n p = directionless_with H P R (verts_of H R E n) T old n p
