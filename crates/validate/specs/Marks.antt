-- The mark check of a sound mesh, a triangle at a time. Only contracts inside a call name it.
use Rattle.std.specs.Prelude.{ℕ, ◌+◌, List, Bool, true, cond, not, ◌&&◌, Float}
use Rattle.mesh.specs.Mesh.{paired_halfedge, Halfedges}
use Rattle.smoothing.specs.Lists.{is_marked_inside_quad}

-- a marked halfedge e passes, where `next` and `prev` say whether its neighbours are marked: neither is, and its pair is
abbrev pub mark_valid : Halfedges → List Float → ℕ → Bool → Bool → Bool
mark_valid H T e next prev = not next && not prev && is_marked_inside_quad T (paired_halfedge H e)

-- the triangle of the halfedges e, e + 1 and e + 2: the first of them that is marked passes
unfoldable pub triangle_valid : Halfedges → List Float → ℕ → Bool
triangle_valid H T e =
    let first = is_marked_inside_quad T e in
    let second = is_marked_inside_quad T (e + 1) in
    let third = is_marked_inside_quad T (e + 2) in
    cond first (mark_valid H T e second third) (cond second (mark_valid H T (e + 1) third first) (cond third (mark_valid H T (e + 2) first second) true))
