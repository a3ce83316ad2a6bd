-- What each step counts at most. Assumes nothing.
use Prim.Native.Nat.{ℕ, ◌≤◌}
use native.Mathlib.Omega.{arith}
use mathlib.Core.Path.{◌≡◌}
use mathlib.Core.Bool.{Bool, cond}
use mathlib.Core.List.{List}
use lib.Ieee.{Float, lt, eq}
use Rattle.std.proofs.lemmas.Bool.{cond_both}
use Rattle.float.specs.Ops.{zero}
use Rattle.linalg.specs.declared.Vec3.{Vec3}
use Rattle.mesh.specs.Mesh.{Halfedges}
use Rattle.smoothing.specs.Lists.{weight_at, is_marked_inside_quad}
use Rattle.create_shared.proofs.Counts.{directionless_one, aligned_two}
use Rattle.create_from_normals.specs.declared.state.FaceEdges.{FaceEdges}
use Rattle.create_from_normals.specs.declared.state.FaceEdges.TheVariants.{NoEdge, OneEdge, TwoEdges, Spoiled}
use Rattle.create_from_normals.specs.declared.state.NormalPair.{NormalPair}
use Rattle.create_from_normals.specs.declared.steps.FaceLists.{FaceLists}
use Rattle.create_from_normals.specs.Steps.Steps.{missing_normal_weight, Walk, flag_step, normal_step_directionless, vert_normal_directionless, fill_directionless, face_edges_directionless}
use Rattle.create_from_normals.specs.Steps.Carried.{halfedges_of, is_flagged, normal_step_directionless_of}

-- what both ways are at most
pub way_at_most : {m : ℕ} (b : Bool) {x y : ℕ} → x ≤ m → y ≤ m → cond b x y ≤ m
way_at_most {m} b p q = cond_both b _ _ (λ k. k ≤ m) (λ e. p) (λ e. q)

module _ (H : Halfedges) (P : List Float) where
  pub normal_step_one : (A : List Float) (normal : ℕ → Vec3) (inside : ℕ → Bool) (m : Walk) (e : ℕ) → normal_step_directionless H P A normal inside m e ≤ 1
  unfolding normal_step_directionless
  normal_step_one A normal inside m e =
      way_at_most (lt (weight_at (flag_step H A normal inside m e).tangents e) zero) (omega arith) (directionless_one H P e)

  pub vert_normal_one : (T : List Float) (e : ℕ) → vert_normal_directionless H P T e ≤ 1
  unfolding vert_normal_directionless
  vert_normal_one T e = way_at_most (is_marked_inside_quad T e) (omega arith) (directionless_one H P e)

  pub fill_one : (T : List Float) (e : ℕ) → fill_directionless H P T e ≤ 1
  unfolding fill_directionless
  fill_one T e = way_at_most (eq (weight_at T e) missing_normal_weight) (directionless_one H P e) (omega arith)

  pub face_edges_two : (f : FaceEdges) → face_edges_directionless H P f ≤ 2
  unfolding face_edges_directionless
  face_edges_two NoEdge = omega arith
  face_edges_two (OneEdge a) = omega arith
  face_edges_two (TwoEdges a b) = aligned_two H P a b
  face_edges_two Spoiled = omega arith

-- of the first loop by the normals that the walk carries, whatever these are
pub normal_count_one : (l : FaceLists) (inside : ℕ → Bool) (normals : NormalPair) (e : ℕ) {k : ℕ} → k ≡ normal_step_directionless_of l inside normals e → k ≤ 1
unfolding normal_step_directionless_of
normal_count_one l inside normals e q =
    rw q (way_at_most (is_flagged inside normals e) (omega arith) (directionless_one (halfedges_of l) l.pos.now e))
