-- Making from normals asks of a halfedge only whether it is inside a quad, and its normal: functions that agree on the n halfedges give the same tangents and the same count. Assumes nothing.
use Prim.Native.Nat.{ℕ, ◌+◌, ◌<◌}
use mathlib.Core.Path.{◌≡◌, refl, sym, ap, fun_ext, ◌∙◌}
use mathlib.Core.Bool.{Bool, true, false, cond, ◌&&◌}
use mathlib.Core.List.{List, foldl}
use borrow.Author.Tests.{ltb-true}
use lib.Dec.{ltb}
use lib.Ieee.{Float}
use Rattle.linalg.specs.declared.Vec3.{Vec3}
use Rattle.common.specs.Fold.{fold_to}
use Rattle.common.specs.Counted.{Counted, counted, count_step}
use Rattle.common.proofs.Counted.{counted_foldl, counted_fold_to}
use Rattle.linalg.specs.Vec.{is_zero}
use Rattle.mesh.specs.Mesh.{Halfedges}
use Rattle.mesh.specs.Sound.{Sound}
use Rattle.smoothing.specs.Lists.{point_at}
use Rattle.cycles.specs.Cycles.{next_around, vertex_cycle, vertex_cycle_back}
use Rattle.cycles.proofs.Around.{next_below, prev_below}
use Rattle.create_shared.specs.Verts.{vert_halfedge}
use Rattle.create_shared.specs.Makings.{Tangents, tangents_of}
use Rattle.create_from_normals.specs.declared.state.StartHalfedge.{StartHalfedge}
use Rattle.create_from_normals.specs.declared.state.StartHalfedge.TheVariants.{NoneMissing, SomeMissing, StartAt}
use Rattle.create_from_normals.specs.State.State.{has_face_normal, is_missing, some_missing, start_state, next_state}
use Rattle.create_from_normals.specs.Steps.Steps.{StartIn, StateIn, Walk, walk_of, Fill, fill_of, tangent_step, normal_step, normal_step_directionless, fill_step, fill_directionless, align_face_edges, face_edges_directionless}
use Rattle.create_from_normals.specs.Walks.Walks.{normal_walk, normal_walk_directionless, vert_normal_walk, vert_normal_walk_directionless, fill_walk, fill_walk_directionless, fill_missing, fill_missing_directionless, finish_vert, finish_vert_directionless, normals_vert, normals_vert_directionless, normals_verts, normals_verts_directionless}
use Rattle.create_from_normals.proofs.WalksLaws.Rounds.{cycle_same, walk_in}

-- what a fold leaves, and what it counts, are the counted fold
both : {S : Type 0} (step : S → ℕ → S) (more : S → ℕ → ℕ) (s : S) (xs : List ℕ) → counted (foldl step s xs) (foldl (count_step step more) (counted s 0) xs).count ≡ foldl (count_step step more) (counted s 0) xs
both {S} step more s xs =
    ap (λ (t : S). counted t (foldl (count_step step more) (counted s 0) xs).count) (sym (counted_foldl step more (counted s 0) xs))

module _ {H : Halfedges} {n p : ℕ} (S : Sound H n p) (P N A : List Float) (f g : ℕ → Bool) (same : (e : ℕ) → e < n → f e ≡ g e) (a b : ℕ → Vec3) (equal : (e : ℕ) → e < n → a e ≡ b e) where
  -- the first loop
  step_same : (c : Counted Walk) (e : ℕ) → e < n → count_step (normal_step H P A a f) (normal_step_directionless H P A a f) c e ≡ count_step (normal_step H P A b g) (normal_step_directionless H P A b g) c e
  unfolding count_step normal_step normal_step_directionless tangent_step next_state is_missing has_face_normal
  step_same c e h = rw (same e h, equal e h, equal (next_around H e) (next_below S e h)) refl

  walk_same : (m : Tangents) (e : ℕ) → e < n → counted (normal_walk H P A a f n m e) (normal_walk_directionless H P A a f n m e) ≡ counted (normal_walk H P A b g n m e) (normal_walk_directionless H P A b g n m e)
  unfolding normal_walk normal_walk_directionless
  walk_same m e h =
      let start = walk_of m.tangents m.fixed start_state in
      both (normal_step H P A a f) (normal_step_directionless H P A a f) start (vertex_cycle H n e)
      ∙ cycle_same (count_step (normal_step H P A a f) (normal_step_directionless H P A a f)) (count_step (normal_step H P A b g) (normal_step_directionless H P A b g)) (λ x. x < n) (next_below S) step_same n e e (counted start 0) h
      ∙ sym (both (normal_step H P A b g) (normal_step_directionless H P A b g) start (vertex_cycle H n e))

  -- the loop that goes round backwards
  abbrev more : Fill → ℕ → ℕ
  more m e = fill_directionless H P m.tangents e

  fill_step_same : (last : Vec3) (c : Counted Fill) (e : ℕ) → e < n → count_step (fill_step H P A a last) more c e ≡ count_step (fill_step H P A b last) more c e
  unfolding count_step fill_step
  fill_step_same last c e h = rw (equal e h) refl

  fill_same : (last : Vec3) (T : List Float) (start : ℕ) → start < n → counted (fill_walk H P A a n last T start) (fill_walk_directionless H P A a n last T start) ≡ counted (fill_walk H P A b n last T start) (fill_walk_directionless H P A b n last T start)
  unfolding fill_walk fill_walk_directionless
  fill_same last T start h =
      ap (λ (c : Counted Fill). counted c.state.tangents c.count) (
      both (fill_step H P A a last) more (fill_of T (a (next_around H start))) (vertex_cycle_back H n start)
      ∙ ap (λ (v : Vec3). foldl (count_step (fill_step H P A a last) more) (counted (fill_of T v) 0) (vertex_cycle_back H n start)) (equal (next_around H start) (next_below S start h))
      ∙ cycle_same (count_step (fill_step H P A a last) more) (count_step (fill_step H P A b last) more) (λ x. x < n) (prev_below S) (fill_step_same last) n start start (counted (fill_of T (b (next_around H start))) 0) h
      ∙ sym (both (fill_step H P A b last) more (fill_of T (b (next_around H start))) (vertex_cycle_back H n start))
      )

  fill_missing_same : (last : Vec3) (T : List Float) (start : StartHalfedge) → StartIn n start → counted (fill_missing H P A a n last T start) (fill_missing_directionless H P A a n last T start) ≡ counted (fill_missing H P A b n last T start) (fill_missing_directionless H P A b n last T start)
  unfolding fill_missing fill_missing_directionless
  fill_missing_same last T NoneMissing w = refl
  fill_missing_same last T SomeMissing w = refl
  fill_missing_same last T (StartAt start) w = fill_same last T start w

  -- a point
  finish_same : (m : Walk) (v e : ℕ) → StateIn n m.state → counted (finish_vert H P N A a n m v e) (finish_vert_directionless H P N A a n m v e) ≡ counted (finish_vert H P N A b n m v e) (finish_vert_directionless H P N A b n m v e)
  unfolding finish_vert finish_vert_directionless
  finish_same m v e w =
      let s = m.state in
      let none = some_missing s.start_halfedge && is_zero s.last_normal in
      ap
      (λ (c : Counted (List Float)). counted (cond none
      (tangents_of (vert_normal_walk H P A n (point_at N v) m.tangents e) m.fixed)
      (align_face_edges H P (tangents_of c.state m.fixed) s.face_edges)) (cond none
      (vert_normal_walk_directionless H P A n (point_at N v) m.tangents e)
      (c.count + face_edges_directionless H P s.face_edges)))
      (fill_missing_same s.last_normal m.tangents s.start_halfedge w.start_halfedge)

  vert_same : (m : Tangents) (v : ℕ) → counted (normals_vert H P N A a f n m v) (normals_vert_directionless H P N A a f n m v) ≡ counted (normals_vert H P N A b g n m v) (normals_vert_directionless H P N A b g n m v)
  unfolding normals_vert normals_vert_directionless
  vert_same m v = go (vert_halfedge H n v) (ltb (vert_halfedge H n v) n) refl
    where
      go : (e : ℕ) (t : Bool) → ltb e n ≡ t
          → counted (cond t (finish_vert H P N A a n (normal_walk H P A a f n m e) v e) m) (cond t (normal_walk_directionless H P A a f n m e + finish_vert_directionless H P N A a n (normal_walk H P A a f n m e) v e) 0)
          ≡ counted (cond t (finish_vert H P N A b n (normal_walk H P A b g n m e) v e) m) (cond t (normal_walk_directionless H P A b g n m e + finish_vert_directionless H P N A b n (normal_walk H P A b g n m e) v e) 0)
      go e true q =
          let h = ltb-true e n q in
          ap (λ (c : Counted Walk). counted (finish_vert H P N A a n c.state v e) (c.count + finish_vert_directionless H P N A a n c.state v e)) (walk_same m e h)
          ∙ ap (λ (c : Counted Tangents). counted c.state (normal_walk_directionless H P A b g n m e + c.count)) (finish_same (normal_walk H P A b g n m e) v e (walk_in S P A b g m e h))
      go e false q = refl

  -- all points
  turn_same : (c : Counted Tangents) (v : ℕ) → count_step (normals_vert H P N A a f n) (normals_vert_directionless H P N A a f n) c v ≡ count_step (normals_vert H P N A b g n) (normals_vert_directionless H P N A b g n) c v
  unfolding count_step
  turn_same c v = ap (λ (k : Counted Tangents). counted k.state (c.count + k.count)) (vert_same c.state v)

  loop_same : (k : ℕ) (m : Tangents) → fold_to (count_step (normals_vert H P N A a f n) (normals_vert_directionless H P N A a f n)) (counted m 0) k ≡ fold_to (count_step (normals_vert H P N A b g n) (normals_vert_directionless H P N A b g n)) (counted m 0) k
  loop_same k m =
      ap (λ (turn : Counted Tangents → ℕ → Counted Tangents). fold_to turn (counted m 0) k) (fun_ext (λ c. fun_ext (turn_same c)))

  pub verts_same : (k : ℕ) (m : Tangents) → normals_verts H P N A a f n k m ≡ normals_verts H P N A b g n k m
  unfolding normals_verts
  verts_same k m =
      sym (counted_fold_to (normals_vert H P N A a f n) (normals_vert_directionless H P N A a f n) (counted m 0) k)
      ∙ ap (λ (c : Counted Tangents). c.state) (loop_same k m)
      ∙ counted_fold_to (normals_vert H P N A b g n) (normals_vert_directionless H P N A b g n) (counted m 0) k

  -- and the count
  pub verts_count_same : (k : ℕ) (m : Tangents) → normals_verts_directionless H P N A a f n k m ≡ normals_verts_directionless H P N A b g n k m
  unfolding normals_verts_directionless
  verts_count_same k m = ap (λ (c : Counted Tangents). c.count) (loop_same k m)
