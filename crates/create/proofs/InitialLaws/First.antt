-- Laws of the first tangents and of what they count: the lent list may stand for the old weights of the halfedges ahead, and for the Rust's zeros. Assumes nothing.
use Prim.Native.Nat.{ℕ, ◌+◌, ◌*◌, ◌<◌, ◌≤◌}
use native.Mathlib.Omega.{arith}
use mathlib.Core.Path.{◌≡◌, refl, sym, ap, ◌∙◌, subst}
use mathlib.Core.List.{List}
use mathlib.Core.Bool.{Bool, true, false, cond}
use lib.ListN.{length, replicate, length-replicate}
use lib.IntN.{ℤ}
use lib.Ieee.{Float}
use Rattle.float.specs.Ops as Ops
use Rattle.mesh.specs.Mesh.{as_halfedges, start_vert, paired_halfedge, is_forward, Halfedges}
use Rattle.common.specs.Fold.{fold_to}
use Rattle.common.specs.Count.{sum, count_below}
use Rattle.smoothing.specs.declared.faces.FlatFace.{FlatFace}
use Rattle.smoothing.specs.Faces.{flat_faces, is_flat, vert_flat_face}
use Rattle.smoothing.proofs.VertFaces.{vert_face_in}
use Rattle.common.proofs.Fold.{fold_turn, fold_same}
use Rattle.common.proofs.Sums.{sum_turn, sum_mono}
use Rattle.smoothing.specs.Lists.{put_tangent, weight_at}
use Rattle.smoothing.specs.Edges.{InsideQuadIn, is_inside_quad}
use Rattle.smoothing.specs.declared.TwoTangents.{TwoTangents}
use Rattle.smoothing.specs.Inner.{tangents_from_normals, put_edge}
use Rattle.smoothing.proofs.Edges.{edge_in, inside_quad_in}
use Rattle.smoothing.proofs.Inner.{directionless_there}
use Rattle.smoothing.proofs.Tangents.{weight_put_other}
use Rattle.smoothing.proofs.Pairs.{inside_pair}
use Rattle.smoothing.proofs.Places.{tangent_places, each_same, edges_same}
use Rattle.create.specs.Initial.First.{inside_quad_tangent, first_tangent, put_first_tangent, first_tangents, first_directionless}
use Rattle.create_shared.specs.declared.mesh_lists.MeshLists.{MeshLists}
use Rattle.create.specs.declared.initial.face_lists.FaceLists.{FaceLists}
use Rattle.create.specs.Initial.Faces.{face_at, FaceIn}
use Rattle.create.specs.Initial.Lent.{normal_at, inside_quad, first_at, counts_first, put_first, count_firsts, edge_tangents, edge_directionless}
use Rattle.create.proofs.InitialLaws.Counts.{firsts_within, pairs_count}

-- ---- one turn

module _ (H : Halfedges) (P N A : List Float) where
  -- the turn at e asks of e, and of its start point
  first_same : (inside inside' : ℕ → Bool) (faces faces' : ℕ → FlatFace) (T : List Float) (e : ℕ) → inside e ≡ inside' e → faces (start_vert H e) ≡ faces' (start_vert H e) → put_first_tangent H P N A inside faces T e ≡ put_first_tangent H P N A inside' faces' T e
  unfolding put_first_tangent first_tangent
  first_same inside inside' faces faces' T e p q = rw (p, q)

  -- and writes e's own tangent
  first_other : (inside : ℕ → Bool) (faces : ℕ → FlatFace) (T : List Float) (e x : ℕ) → (x ≡ e → ⊥) → weight_at (put_first_tangent H P N A inside faces T e) x ≡ weight_at T x
  unfolding put_first_tangent
  first_other inside faces T e x h = weight_put_other T e _ x h

  -- any list of n tangents may stand for the zeros
  first_from : (inside : ℕ → Bool) (faces : ℕ → FlatFace) (S T : List Float) (n : ℕ) → length S ≡ n * 4 → length T ≡ n * 4 → fold_to (put_first_tangent H P N A inside faces) S n ≡ fold_to (put_first_tangent H P N A inside faces) T n
  unfolding put_first_tangent
  first_from inside faces S T n = each_same (tangent_places n) (λ e. first_tangent H P N A inside (faces (start_vert H e)) e) S T

-- of the old tangents only e's own weight is read
inside_same : (H : Halfedges) (R : List ℤ) (old : Bool) (O T : List Float) (e : ℕ) → weight_at T e ≡ weight_at O e → is_inside_quad H R T old e ≡ is_inside_quad H R O old e
unfolding is_inside_quad
inside_same H R old O T e q = rw q

-- the turn at e in place: T is the loop up to e, with the old weights, which stand in O, from e on
module _ (l : FaceLists) (old : Bool) (O T T' : List Float) (e : ℕ) (ahead : (x : ℕ) → e ≤ x → weight_at T x ≡ weight_at O x) (q : T' ≡ put_first l T old T e) where
  pub first_turn : T ≡ fold_to (put_first l O old) O e → T' ≡ fold_to (put_first l O old) O (e + 1)
  first_turn p =
      let m = l.mesh in
      fold_turn (put_first l O old) O T T' e p
      (q ∙ first_same (as_halfedges m.h.now) m.pos.now m.normals.now m.face_normals.now (inside_quad m T old) (inside_quad m O old) (face_at l.at.now) (face_at l.at.now) T e
      (inside_same (as_halfedges m.h.now) m.refs.now old O T e (ahead e (omega arith))) refl)

  pub first_ahead : (x : ℕ) → e + 1 ≤ x → weight_at T' x ≡ weight_at O x
  first_ahead x h =
      let m = l.mesh in
      ap (λ (L : List Float). weight_at L x) q
      ∙ first_other (as_halfedges m.h.now) m.pos.now m.normals.now m.face_normals.now (inside_quad m T old) (face_at l.at.now) T e x (λ z. omega arith)
      ∙ ahead x (omega arith)

-- and what it counts
pub first_counts : (mesh : MeshLists) (old : Bool) (O T : List Float) (e d k : ℕ) → ((x : ℕ) → e ≤ x → weight_at T x ≡ weight_at O x) → d ≡ count_below (counts_first mesh O old) e → k ≡ cond (counts_first mesh T old e) 1 0 → d + k ≡ count_below (counts_first mesh O old) (e + 1)
unfolding count_below first_directionless
first_counts mesh old O T e d k ahead p q =
    sum_turn (λ x. cond (counts_first mesh O old x) 1 0) e d k p
    (rw (← inside_same (as_halfedges mesh.h.now) mesh.refs.now old O T e (ahead e (omega arith))) q)

-- what the test for the inside of a quad asks
pub quad_in : (l : FaceLists) (T : List Float) (e : ℕ) → length T ≡ l.mesh.n * 4 → e < l.mesh.n → InsideQuadIn (as_halfedges l.mesh.h.now) T e
quad_in l T e q h = inside_quad_in (as_halfedges l.mesh.h.now) l.mesh.n l.mesh.p T l.mesh.sound l.mesh.whole q e h

-- ---- edge by edge, where there are no old tangents

module _ (l : FaceLists) where
  abbrev mesh : MeshLists
  mesh = l.mesh

  abbrev H : Halfedges
  H = as_halfedges mesh.h.now

  module _ (T : List Float) where
    inside_there : (e : ℕ) → e < mesh.n → inside_quad mesh T false (paired_halfedge H e) ≡ inside_quad mesh T false e
    inside_there = inside_pair H mesh.refs.now mesh.n mesh.p T mesh.sound

    pub edge_inside : (e : ℕ) → e < mesh.n → inside_quad mesh T false e ≡ true → edge_tangents l T e ≡ record { here = inside_quad_tangent; there = inside_quad_tangent; directionless = false }
    unfolding edge_tangents first_tangent first_directionless
    edge_inside e h i = rw (inside_there e h, i)

    pub edge_outside : (e : ℕ) → e < mesh.n → inside_quad mesh T false e ≡ false → edge_tangents l T e ≡ tangents_from_normals H mesh.pos.now mesh.face_normals.now (normal_at l e) (normal_at l (paired_halfedge H e)) e
    unfolding edge_tangents first_tangent first_directionless tangents_from_normals
    edge_outside e h i = rw (inside_there e h, i)

    -- the loop over the edges is that over the halfedges
    pub edges_are : length T ≡ mesh.n * 4 → fold_to (put_edge put_tangent H (first_at l T false)) T mesh.n ≡ fold_to (put_first l T false) T mesh.n
    unfolding put_first_tangent
    edges_are q = edges_same (tangent_places mesh.n) (first_at l T false) mesh.sound T T q q

    -- both halfedges of an edge count, or neither does
    counts_there : (e : ℕ) → e < mesh.n → counts_first mesh T false (paired_halfedge H e) ≡ counts_first mesh T false e
    unfolding first_directionless
    counts_there e h =
        let s = mesh.sound in
        rw (inside_there e h, directionless_there (record { edge = edge_in H mesh.n mesh.p mesh.pos.now s mesh.whole mesh.positions e h; paired_start = s.paired_start e h; paired_end = s.paired_end e h }))

    -- so the loop over the edges, which counts both at once, counts all
    pub edges_count : sum mesh.n (edge_directionless mesh T) ≡ count_firsts mesh T false
    unfolding edge_directionless
    edges_count = pairs_count mesh.sound (counts_first mesh T false) counts_there

    -- and never more than n
    pub edges_room : (e : ℕ) → e ≤ mesh.n → sum e (edge_directionless mesh T) ≤ mesh.n
    edges_room e h =
        omega (arith, sum_mono (edge_directionless mesh T) e mesh.n h, edges_count, firsts_within H mesh.pos.now (inside_quad mesh T false) mesh.n)

-- what is written at a forward halfedge, and what it counts
module _ (l : FaceLists) (T : List Float) (e : ℕ) {tangents : TwoTangents} (made : tangents ≡ edge_tangents l T e) (forward : is_forward (as_halfedges l.mesh.h.now) e ≡ true) where
  pub edge_put : {pair : ℕ} {T₁ T₂ : List Float} → pair ≡ paired_halfedge (as_halfedges l.mesh.h.now) e → T₁ ≡ put_tangent T e tangents.here → T₂ ≡ put_tangent T₁ pair tangents.there → T₂ ≡ put_edge put_tangent (as_halfedges l.mesh.h.now) (first_at l T false) T e
  unfolding put_edge edge_tangents
  edge_put {pair} k p q =
      let here : tangents.here ≡ first_at l T false e = ap (λ (t : TwoTangents). t.here) made in
      let there : tangents.there ≡ first_at l T false pair = rw k (ap (λ (t : TwoTangents). t.there) made) in
      simp (forward, ← here, ← there, ← k, ← p) q

  pub edge_adds : {k : ℕ} → k ≡ cond tangents.directionless 2 0 → k ≡ edge_directionless l.mesh T e
  unfolding edge_directionless edge_tangents
  edge_adds q =
      let count : tangents.directionless ≡ counts_first l.mesh T false e = ap (λ (t : TwoTangents). t.directionless) made in
      rw (forward, ← count) q

-- one turn of that loop: without old tangents the list is not read
pub edge_turn : (l : FaceLists) (O T T' : List Float) (e : ℕ) → T ≡ fold_to (put_edge put_tangent (as_halfedges l.mesh.h.now) (first_at l O false)) O e → T' ≡ put_edge put_tangent (as_halfedges l.mesh.h.now) (first_at l T false) T e → T' ≡ fold_to (put_edge put_tangent (as_halfedges l.mesh.h.now) (first_at l O false)) O (e + 1)
unfolding is_inside_quad
edge_turn l O T T' e p q = fold_turn (put_edge put_tangent (as_halfedges l.mesh.h.now) (first_at l O false)) O T T' e p q

pub edge_counts : (mesh : MeshLists) (O T : List Float) (e d k : ℕ) → d ≡ sum e (edge_directionless mesh O) → k ≡ edge_directionless mesh T e → d + k ≡ sum (e + 1) (edge_directionless mesh O)
unfolding is_inside_quad edge_directionless
edge_counts mesh O T e d k p q = sum_turn (edge_directionless mesh O) e d k p q

-- ---- the list W, once it is filled

module _ (mesh : MeshLists) (F C W : List ℕ) (l : length F ≡ mesh.n) (c : length C ≡ mesh.p) (k : length W ≡ length C)
    (given : (v : ℕ) → v < length C → face_at W v ≡ vert_flat_face (as_halfedges mesh.h.now) mesh.refs.now (is_flat F) (length F) v) where
  filled : (v : ℕ) → v < mesh.p → face_at W v ≡ vert_flat_face (as_halfedges mesh.h.now) mesh.refs.now (is_flat F) mesh.n v
  filled v h = given v (subst (λ (m : ℕ). v < m) (sym c) h) ∙ ap (λ (m : ℕ). vert_flat_face (as_halfedges mesh.h.now) mesh.refs.now (is_flat F) m v) l

  pub faces_in : (v : ℕ) → v < length W → FaceIn mesh.n (face_at W v)
  faces_in v h t e = vert_face_in (as_halfedges mesh.h.now) mesh.refs.now (is_flat F) mesh.n v t mesh.sound.triangles (sym (filled v (subst (λ (m : ℕ). v < m) (k ∙ c) h)) ∙ e)

  pub first_is : (old : Bool) (T : List Float) {T' : List Float} → length T ≡ mesh.n * 4 → is_flat F ≡ is_flat (flat_faces (as_halfedges mesh.h.now) mesh.refs.now mesh.n) → T' ≡ fold_to (put_first_tangent (as_halfedges mesh.h.now) mesh.pos.now mesh.normals.now mesh.face_normals.now (inside_quad mesh T old) (face_at W)) T mesh.n → T' ≡ first_tangents (as_halfedges mesh.h.now) mesh.pos.now mesh.normals.now mesh.face_normals.now mesh.refs.now (inside_quad mesh T old) mesh.n
  unfolding first_tangents
  first_is old T t e p =
      let H = as_halfedges mesh.h.now in
      let R = mesh.refs.now in
      let inside = inside_quad mesh T old in
      let faces = vert_flat_face H R (is_flat (flat_faces H R mesh.n)) mesh.n in
      let put = put_first_tangent H mesh.pos.now mesh.normals.now mesh.face_normals.now inside faces in
      p
      ∙ fold_same (put_first_tangent H mesh.pos.now mesh.normals.now mesh.face_normals.now inside (face_at W)) put T mesh.n
      (λ L x h. first_same H mesh.pos.now mesh.normals.now mesh.face_normals.now inside inside (face_at W) faces L x refl
      (filled (start_vert H x) (mesh.sound.start_below x h) ∙ ap (λ (flat : ℕ → Bool). vert_flat_face H R flat mesh.n (start_vert H x)) e))
      ∙ first_from H mesh.pos.now mesh.normals.now mesh.face_normals.now inside faces T (replicate (mesh.n * 4) Ops.zero) mesh.n t (length-replicate (mesh.n * 4) Ops.zero)
