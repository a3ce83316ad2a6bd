-- The tangent between two normals is that by its direction; and the body of the first loop: with the normals of the lists it is the Rust's. The Rust writes a weight first and reads it back to see whether there is a flag; the code asks for the flag. Assumes nothing.
use Prim.Native.Nat.{ℕ, ◌+◌, ◌*◌, ◌/◌, ◌≤◌}
use mathlib.Core.Path.{◌≡◌, refl, sym, ◌∙◌}
use mathlib.Core.Bool.{Bool, true, false, cond, ◌||◌, true≢false}
use mathlib.Core.List.{List}
use lib.ListN.{length}
use lib.Ieee.{Float, lt, neg, of_bits}
use Rattle.float.specs.Ops.{zero, one}
use Rattle.linalg.specs.declared.Vec3.{Vec3}
use Rattle.linalg.specs.declared.Vec4.{Vec4}
use Rattle.mesh.specs.Mesh.{Halfedges}
use Rattle.smoothing.specs.Directions.{vec3_from_vec4, with_weight, circular_tangent}
use Rattle.smoothing.specs.Edges.{edge_vec}
use Rattle.smoothing.proofs.Inner.{tangent_by_direction}
use Rattle.smoothing.specs.Lists.{tangent_at, put_tangent}
use Rattle.smoothing.proofs.Directions.{equal_by_units}
use Rattle.smoothing.proofs.Tangents.{weight_put_same, put_put}
use Rattle.cycles.specs.Cycles.{next_around}
use Rattle.create_shared.specs.Makings.{directionless_at}
use Rattle.create_from_normals.specs.declared.state.CycleState.{CycleState}
use Rattle.create_from_normals.specs.State.State.{is_missing, next_state}
use Rattle.create_from_normals.specs.State.Carried.{halfedge_normal}
use Rattle.create_from_normals.specs.State.Units.{UnitsIn}
use Rattle.create_from_normals.proofs.StateLaws.Carried.{next_state_by}
use Rattle.create_from_normals.specs.Steps.Steps.{tangent_between, inside_quad_weight, missing_normal_weight, flag_tangent, Walk, walk_of, tangent_step, normal_step, normal_step_directionless}
use Rattle.create_from_normals.specs.declared.state.NormalPair.{NormalPair}
use Rattle.create_from_normals.specs.declared.steps.FaceLists.{FaceLists}
use Rattle.create_from_normals.specs.Steps.Carried.{halfedges_of, direction_between, tangent_step_of, normal_step_of, normal_step_directionless_of}

-- ---- the weight says whether there is a flag

inside_below : lt inside_quad_weight zero ≡ true
unfolding lt neg of_bits
inside_below = refl

missing_below : lt missing_normal_weight zero ≡ true
unfolding lt neg of_bits
missing_below = refl

pub one_above : lt one zero ≡ false
unfolding lt of_bits
one_above = refl

flag_below : (inside : Bool) → lt (cond inside inside_quad_weight missing_normal_weight) zero ≡ true
flag_below true = inside_below
flag_below false = missing_below

flag_is : (missing inside : Bool) (last : Vec3) (t : Vec4) → inside || missing ≡ true → flag_tangent missing inside last t ≡ with_weight last (cond inside inside_quad_weight missing_normal_weight)
unfolding flag_tangent
flag_is missing true last t h = refl
flag_is true false last t h = refl
flag_is false false last t h = absurd (true≢false (sym h))

no_flag_is : (missing inside : Bool) (last : Vec3) (t : Vec4) → inside || missing ≡ false → flag_tangent missing inside last t ≡ with_weight (vec3_from_vec4 t) one
unfolding flag_tangent
no_flag_is missing true last t h = absurd (true≢false h)
no_flag_is true false last t h = absurd (true≢false h)
no_flag_is false false last t h = refl

-- ---- a halfedge e without a flag

-- by its direction
pub tangent_between_by : (l : FaceLists) (a b : Vec3) (equal : Bool) (e : ℕ) → tangent_between (halfedges_of l) l.pos.now l.face_normals.now a b equal e ≡ circular_tangent (direction_between l a b equal (edge_vec (halfedges_of l) l.pos.now e) e) (edge_vec (halfedges_of l) l.pos.now e)
unfolding tangent_between direction_between
tangent_between_by l a b true e = tangent_by_direction (halfedges_of l) l.pos.now l.face_normals.now a e
tangent_between_by l a b false e = refl

-- the normals of halfedge e and of the next one round its point; U are the unit vectors of the triangles' normals
abbrev pub pair_at : Halfedges → List Float → (ℕ → Vec3) → ℕ → NormalPair
pair_at H U normal e = record { here = halfedge_normal U normal e; next = halfedge_normal U normal (next_around H e) }

pub tangent_step_by : (l : FaceLists) (U : List Float) (normal : ℕ → Vec3) (m : Walk) (e : ℕ) → tangent_step (halfedges_of l) l.pos.now l.face_normals.now normal m e ≡ tangent_step_of l (pair_at (halfedges_of l) U normal e) m e
unfolding tangent_step tangent_step_of halfedge_normal
tangent_step_by l U normal m e = rw (equal_by_units (normal (next_around (halfedges_of l) e)) (normal e)) refl

-- ---- the body of the loop, at halfedge e

module _ (H : Halfedges) (P A : List Float) (normal : ℕ → Vec3) (inside : ℕ → Bool) (m : Walk) (e : ℕ) (h : e * 4 + 4 ≤ length m.tangents) where
  abbrev after : CycleState
  after = next_state H A normal m.state e

  abbrev flag : Vec4
  flag = with_weight after.last_normal (cond (inside e) inside_quad_weight missing_normal_weight)

  -- by whether it has a flag
  step_cases : (b : Bool) → inside e || is_missing H normal e ≡ b
      → normal_step H P A normal inside m e ≡ cond b (walk_of (put_tangent m.tangents e flag) m.fixed after) (tangent_step H P A normal (walk_of m.tangents m.fixed after) e)
  unfolding normal_step tangent_step
  step_cases true k =
      simp (flag_is (is_missing H normal e) (inside e) after.last_normal (tangent_at m.tangents e) k, weight_put_same m.tangents e flag h, flag_below (inside e))
  step_cases false k =
      simp (no_flag_is (is_missing H normal e) (inside e) after.last_normal (tangent_at m.tangents e) k, weight_put_same m.tangents e (with_weight (vec3_from_vec4 (tangent_at m.tangents e)) one) h, one_above, put_put)

  -- and what it counts
  count_cases : (b : Bool) → inside e || is_missing H normal e ≡ b → normal_step_directionless H P A normal inside m e ≡ cond b 0 (directionless_at H P e)
  unfolding normal_step_directionless
  count_cases true k =
      simp (flag_is (is_missing H normal e) (inside e) after.last_normal (tangent_at m.tangents e) k, weight_put_same m.tangents e flag h, flag_below (inside e))
  count_cases false k =
      simp (no_flag_is (is_missing H normal e) (inside e) after.last_normal (tangent_at m.tangents e) k, weight_put_same m.tangents e (with_weight (vec3_from_vec4 (tangent_at m.tangents e)) one) h, one_above)

-- by the normals of the lists
module _ (l : FaceLists) (normal : ℕ → Vec3) (inside : ℕ → Bool) (m : Walk) (e : ℕ) (h : e * 4 + 4 ≤ length m.tangents) where
  pub normal_step_by : {U : List Float} {n : ℕ} → UnitsIn l.face_normals.now U n → e / 3 * 3 + 3 ≤ n → next_around (halfedges_of l) e / 3 * 3 + 3 ≤ n
      → normal_step (halfedges_of l) l.pos.now l.face_normals.now normal inside m e ≡ normal_step_of l inside (pair_at (halfedges_of l) U normal e) m e
  unfolding normal_step_of is_missing halfedge_normal
  normal_step_by {U} w j k =
      step_cases (halfedges_of l) l.pos.now l.face_normals.now normal inside m e h (inside e || is_missing (halfedges_of l) normal e) refl
      ∙ rw (next_state_by w (halfedges_of l) normal m.state e j k, tangent_step_by l U normal) refl

  pub normal_count_by : (U : List Float) → normal_step_directionless (halfedges_of l) l.pos.now l.face_normals.now normal inside m e ≡ normal_step_directionless_of l inside (pair_at (halfedges_of l) U normal e) e
  unfolding normal_step_directionless_of is_missing halfedge_normal
  normal_count_by U =
      count_cases (halfedges_of l) l.pos.now l.face_normals.now normal inside m e h (inside e || is_missing (halfedges_of l) normal e) refl
