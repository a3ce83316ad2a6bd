-- The lists of a call hold what the module `walks` reads and writes. Assumes nothing.
use Prim.Native.Nat.{ℕ, ◌*◌, ◌+◌, ◌/◌, ◌<◌, ◌≤◌}
use native.Mathlib.Omega.{arith}
use mathlib.Core.Path.{◌≡◌, ap, subst, ◌∙◌}
use mathlib.Core.List.{List}
use lib.ListN.{length, get_or}
use lib.Ieee.{Float}
use Rattle.mesh.specs.Mesh.{start_vert}
use Rattle.create_shared.specs.Makings.{MakingIn}
use Rattle.create_shared.proofs.Verts.{vert_halfedge_starts}
use Rattle.cycles.specs.Cycles.{next_around}
use Rattle.cycles.proofs.Around.{next_below}
use Rattle.create_from_normals.specs.State.State.{RowIn}
use Rattle.create_from_normals.specs.declared.walks.lists.NormalLists.{NormalLists}
use Rattle.create_from_normals.specs.declared.walks.lists.WalkLists.{WalkLists}
use Rattle.create_from_normals.specs.Walks.Lists.{mesh_of}

module _ (l : NormalLists) where
  -- with as many tangents and fixed flags
  pub making_in : {T : List Float} {X : List ℕ} → length T ≡ l.mesh.n * 4 → length X ≡ l.mesh.n → MakingIn (mesh_of l) l.mesh.pos.now T X (length X)
  making_in q x =
      rw x (record { tangents = record { points = l.mesh.p; sound = l.mesh.sound; whole = l.mesh.whole; tangents = q }; positions = l.mesh.positions; fixed = x })

  -- the row of x, the next halfedge round e's point, and the triangles of both
  module _ {e : ℕ} (h : e < l.mesh.n) where
    pub next_in : {x : ℕ} → x ≡ next_around (mesh_of l) e → RowIn l.mesh.h.now l.rows.now x
    next_in {x} q = l.halfedge_normals x (omega (arith, next_below l.mesh.sound e h))

    pub here_face_in : e / 3 * 3 + 3 ≤ l.mesh.n
    here_face_in = omega (arith, l.mesh.sound.triangles)

    pub next_face_in : {x : ℕ} → x ≡ next_around (mesh_of l) e → x / 3 * 3 + 3 ≤ l.mesh.n
    next_face_in q = omega (arith, l.mesh.sound.triangles, next_below l.mesh.sound e h)

-- the halfedge in its place of `first` starts there
pub starts_there : (w : WalkLists) {v : ℕ} → v < w.lists.mesh.p → get_or w.first.now v 0 < w.lists.mesh.n → start_vert (mesh_of w.lists) (get_or w.first.now v 0) ≡ v
starts_there w {v} l h =
    let q = w.lowest v l in
    ap (start_vert (mesh_of w.lists)) q ∙ vert_halfedge_starts (mesh_of w.lists) w.lists.mesh.n v (subst (λ (x : ℕ). x < w.lists.mesh.n) q h)
