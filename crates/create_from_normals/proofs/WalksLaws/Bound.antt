-- Making from normals counts at most three for each halfedge: at a point the first loop counts each halfedge at most once; then either the loop that takes the point's normal does, or the loop backwards does, and the two edges of a single flat face come to it. Assumes nothing.
use Prim.Native.Nat.{ℕ, ◌+◌, ◌*◌, ◌≤◌, ◌<◌}
use native.Mathlib.Nat.{le_refl}
use native.Mathlib.Omega.{arith}
use mathlib.Core.Path.{◌≡◌, refl, subst, ◌∙◌}
use mathlib.Core.Bool.{Bool, true, false, cond, ◌&&◌}
use mathlib.Core.List.{List}
use lib.Dec.{ltb}
use borrow.Author.Tests.{ltb-true}
use lib.ListN.{length}
use lib.Ieee.{Float}
use Rattle.linalg.specs.declared.Vec3.{Vec3}
use Rattle.common.specs.Count.{count_below}
use Rattle.common.specs.Counted.{counted}
use Rattle.common.proofs.Counted.{counted_length, counted_sum}
use Rattle.linalg.specs.Vec.{is_zero}
use Rattle.mesh.specs.Mesh.{start_vert, Halfedges}
use Rattle.mesh.specs.Sound.{Sound}
use Rattle.smoothing.specs.Lists.{point_at}
use Rattle.cycles.specs.Cycles.{next_around, vertex_cycle, vertex_cycle_back}
use Rattle.cycles.proofs.Around.{prev_permutes, cycle_two}
use Rattle.cycles.proofs.Orbits.{cycle_within}
use Rattle.cycles.proofs.Starts.{starts_at, cycle_starts, cycle_starts_back, points_bound}
use Rattle.create_shared.specs.Verts.{vert_halfedge}
use Rattle.create_shared.specs.Makings.{Tangents}
use Rattle.create_shared.proofs.Verts.{vert_halfedge_starts}
use Rattle.create_from_normals.specs.declared.state.StartHalfedge.{StartHalfedge}
use Rattle.create_from_normals.specs.declared.state.StartHalfedge.TheVariants.{NoneMissing, SomeMissing, StartAt}
use Rattle.create_from_normals.specs.State.State.{some_missing, start_state}
use Rattle.create_from_normals.specs.Steps.Steps.{StartNames, StartIn, StateNames, Walk, walk_of, normal_step, normal_step_directionless, vert_normal_step, vert_normal_directionless, Fill, fill_of, fill_step, fill_directionless}
use Rattle.create_from_normals.proofs.StepsLaws.Counts.{way_at_most, normal_step_one, vert_normal_one, fill_one, face_edges_two}
use Rattle.create_from_normals.specs.Walks.Walks.{normal_walk, normal_walk_directionless, vert_normal_walk_directionless, fill_walk_directionless, fill_missing_directionless, finish_vert_directionless, normals_vert, normals_vert_directionless, normals_verts_directionless}
use Rattle.create_from_normals.proofs.WalksLaws.Rounds.{walk_at}

-- ---- the loops round a vertex cycle

module _ (H : Halfedges) (P A : List Float) (normal : ℕ → Vec3) (n : ℕ) where
  pub walk_within : (inside : ℕ → Bool) (m : Tangents) (e : ℕ) → normal_walk_directionless H P A normal inside n m e ≤ length (vertex_cycle H n e)
  unfolding normal_walk_directionless
  walk_within inside m e =
      omega (arith, counted_length (normal_step H P A normal inside) (normal_step_directionless H P A normal inside) (normal_step_one H P A normal inside) (counted (walk_of m.tangents m.fixed start_state) 0) (vertex_cycle H n e))

  vert_walk_within : (v : Vec3) (T : List Float) (e : ℕ) → vert_normal_walk_directionless H P A n v T e ≤ length (vertex_cycle H n e)
  unfolding vert_normal_walk_directionless
  vert_walk_within v T e =
      omega (arith, counted_length (vert_normal_step H P A v) (vert_normal_directionless H P) (vert_normal_one H P) (counted T 0) (vertex_cycle H n e))

  fill_within : (last : Vec3) (T : List Float) (start : ℕ) → fill_walk_directionless H P A normal n last T start ≤ length (vertex_cycle_back H n start)
  unfolding fill_walk_directionless
  fill_within last T start =
      omega (arith, counted_length (fill_step H P A normal last) (λ (m : Fill). fill_directionless H P m.tangents) (λ m. fill_one H P m.tangents) (counted (fill_of T (normal (next_around H start))) 0) (vertex_cycle_back H n start))

  -- from where it starts, if that has Q
  fill_missing_within : (Q : ℕ → Type 0) (b : ℕ) → ((x : ℕ) → Q x → length (vertex_cycle_back H n x) ≤ b) → (last : Vec3) (T : List Float) (s : StartHalfedge) → StartNames Q s → fill_missing_directionless H P A normal n last T s ≤ b
  unfolding fill_missing_directionless
  fill_missing_within Q b h last T NoneMissing w = omega arith
  fill_missing_within Q b h last T SomeMissing w = omega arith
  fill_missing_within Q b h last T (StartAt x) w = omega (arith, fill_within last T x, h x w)

module _ {H : Halfedges} {n p : ℕ} (S : Sound H n p) (P N A : List Float) (normal : ℕ → Vec3) where
  pub fill_missing_few : (last : Vec3) (T : List Float) (s : StartHalfedge) → StartIn n s → fill_missing_directionless H P A normal n last T s ≤ n
  fill_missing_few = fill_missing_within H P A normal n (λ x. x < n) n (λ x l. cycle_within (prev_permutes S) x l)

  -- ---- a point

  -- at point v, where the halfedge e starts; `starts` is how many do
  module _ {v e : ℕ} (h : e < n) (q : start_vert H e ≡ v) where
    abbrev starts : ℕ
    starts = count_below (starts_at H v) n

    round : length (vertex_cycle H n e) ≤ starts
    round = subst (λ (u : ℕ). length (vertex_cycle H n e) ≤ count_below (starts_at H u) n) q (cycle_starts S e h)

    round_back : (x : ℕ) → (x < n) × (start_vert H x ≡ start_vert H e) → length (vertex_cycle_back H n x) ≤ starts
    round_back x w =
        subst (λ (u : ℕ). length (vertex_cycle_back H n x) ≤ count_below (starts_at H u) n) (w.1 ∙ q) (cycle_starts_back S x w.0)

    finish_within : (m : Walk) → StateNames (λ x. (x < n) × (start_vert H x ≡ start_vert H e)) m.state → finish_vert_directionless H P N A normal n m v e ≤ 2 * starts
    unfolding finish_vert_directionless
    finish_within m w =
        let s = m.state in
        way_at_most (some_missing s.start_halfedge && is_zero s.last_normal)
        (omega (arith, vert_walk_within H P A normal n (point_at N v) m.tangents e, round))
        (omega (arith, fill_missing_within H P A normal n (λ x. (x < n) × (start_vert H x ≡ start_vert H e)) starts round_back s.last_normal m.tangents s.start_halfedge w.start_halfedge, face_edges_two H P s.face_edges, cycle_two S e h, round))

    pub point_within : (inside : ℕ → Bool) (m : Tangents) → normal_walk_directionless H P A normal inside n m e + finish_vert_directionless H P N A normal n (normal_walk H P A normal inside n m e) v e ≤ 3 * starts
    point_within inside m =
        omega (arith, walk_within H P A normal n inside m e, round, finish_within (normal_walk H P A normal inside n m e) (walk_at S P A normal inside m e h))

  vert_within : (inside : ℕ → Bool) (m : Tangents) (v : ℕ) → normals_vert_directionless H P N A normal inside n m v ≤ 3 * count_below (starts_at H v) n
  unfolding normals_vert_directionless
  vert_within inside m v = go (ltb (vert_halfedge H n v) n) refl
    where
      go : (t : Bool) → ltb (vert_halfedge H n v) n ≡ t → cond t (normal_walk_directionless H P A normal inside n m (vert_halfedge H n v) + finish_vert_directionless H P N A normal n (normal_walk H P A normal inside n m (vert_halfedge H n v)) v (vert_halfedge H n v)) 0 ≤ 3 * count_below (starts_at H v) n
      go true t =
          let h = ltb-true (vert_halfedge H n v) n t in point_within h (vert_halfedge_starts H n v h) inside m
      go false t = omega arith

  -- ---- any number of points

  pub verts_within : (inside : ℕ → Bool) (k : ℕ) (m : Tangents) → normals_verts_directionless H P N A normal inside n k m ≤ 3 * n
  unfolding normals_verts_directionless
  verts_within inside k m =
      omega (
        arith,
        counted_sum (normals_vert H P N A normal inside n) (normals_vert_directionless H P N A normal inside n) (λ v. 3 * count_below (starts_at H v) n) k (λ t v l. vert_within inside t v) (counted m 0),
        points_bound H n k (λ v. 3 * count_below (starts_at H v) n) 3 (λ v l. le_refl (3 * count_below (starts_at H v) n)),
      )
