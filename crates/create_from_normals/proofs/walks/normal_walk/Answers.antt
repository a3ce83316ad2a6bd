-- `create_from_normals::walks::normal_walk` meets its contract: a walk once round a vertex cycle. The invariant: what is left of the counted fold gives the whole, and the normal that is carried is the current halfedge's. Assumes nothing.
use Rattle.create_from_normals.specs.Walks.Walks.{normal_walk, normal_walk_directionless}
use Rattle.create_from_normals.specs.declared.walks.lists.WalkLists.{WalkLists}
use Rattle.create_from_normals.specs.Walks.Lists.{mesh_of, normal_of}
use Rattle.create_from_normals.proofs.WalksLaws.Lent.{making_in, next_in, here_face_in, next_face_in}
use Rattle.create_from_normals.proofs.WalksLaws.Counting.{Counting, counting_start, counting_step, counting_less, counting_within, counting_state, counting_count}
use Rattle.create_from_normals.specs.Steps.Steps.{StateIn, Walk, walk_of, normal_step, normal_step_directionless}
use Rattle.create_from_normals.specs.Steps.Carried.{faces_of, is_inside, normal_step_of, normal_step_directionless_of}
use Rattle.create_from_normals.proofs.StepsLaws.Lent.{state_start, state_after}
use Rattle.create_from_normals.proofs.StepsLaws.Carried.{normal_step_by, normal_count_by}
use Rattle.create_from_normals.proofs.StepsLaws.Counts.{normal_step_one, normal_count_one}
use Rattle.create_from_normals.specs.State.State.{start_state}
use Rattle.create_from_normals.specs.State.Carried.{halfedge_normal}
use Rattle.create_from_normals.specs.declared.state.CycleState.{CycleState}
use Rattle.cycles.proofs.Around.{next_permutes}
use Rattle.cycles.specs.Cycles.{next_around}
use Rattle.smoothing.specs.Directions.{safe_normalize}
use Rattle.create_from_normals.specs.declared.state.HalfedgeNormal.{HalfedgeNormal}
use Rattle.create_from_normals.specs.declared.state.NormalPair.{NormalPair}
use Rattle.create_from_normals.specs.declared.steps.FaceLists.{FaceLists}
use Prim.Native.Nat.{ℕ, ◌+◌, ◌*◌, ◌<◌, ◌≤◌}
use native.Mathlib.Omega.{arith}
use lib.ListN.{length}
use lib.Ieee.{Float}
use Rattle.linalg.specs.declared.Vec3.{Vec3}
use mathlib.Core.List.{List}
use mathlib.Core.Path.{◌≡◌, refl, sym, subst, ◌∙◌}
use Rattle.create_from_normals.proofs.walks.normal_walk.Goals as goal

unit_is : (U : List Float) (normal : ℕ → Vec3) (e : ℕ) {k : HalfedgeNormal} → k ≡ halfedge_normal U normal e → k.unit ≡ safe_normalize k.normal
unfolding halfedge_normal
unit_is U normal e q = rw q refl

-- a step at halfedge e by the carried normals, that of e and that of x
module _ (w : WalkLists) {faces : FaceLists} (f : faces ≡ faces_of w.lists.mesh) (m : Walk) {e : ℕ} (l : e < w.lists.mesh.n) {here next : HalfedgeNormal} {x : ℕ} (h : length m.tangents ≡ w.lists.mesh.n * 4) (p : here ≡ halfedge_normal w.face_units.now (normal_of w.lists) e) (q : next ≡ halfedge_normal w.face_units.now (normal_of w.lists) x) (r : x ≡ next_around (mesh_of w.lists) e) where
  within : e * 4 + 4 ≤ length m.tangents
  within = omega arith

  abbrev normals : NormalPair
  normals = record { here = here; next = next }

  stepped : {m' : Walk} → let k = w.lists in m' ≡ normal_step_of faces (is_inside w.inside.now) normals m e → m' ≡ normal_step (mesh_of k) k.mesh.pos.now k.mesh.face_normals.now (normal_of k) (is_inside w.inside.now) m e
  stepped d =
      let k = w.lists in
      d ∙ rw (f, p, q, r) (sym (normal_step_by (faces_of k.mesh) (normal_of k) (is_inside w.inside.now) m e within w.units (here_face_in k l) (next_face_in k l refl)))

  -- and what it counts
  counts : {j : ℕ} → let k = w.lists in j ≡ normal_step_directionless_of faces (is_inside w.inside.now) normals e → j ≡ normal_step_directionless (mesh_of k) k.mesh.pos.now k.mesh.face_normals.now (normal_of k) (is_inside w.inside.now) m e
  counts d = let k = w.lists in d ∙ rw (f, p, q, r) (sym (normal_count_by (faces_of k.mesh) (normal_of k) (is_inside w.inside.now) m e within w.face_units.now))

pub loop-current-init : goal.loop-current-init
loop-current-init c =
    let a = c.args in
    let q = c.start_state-state.ensures in
    let k = a.walks.now.lists in
    let N = normal_of k in
    let B = is_inside a.walks.now.inside.now in
    let H = mesh_of k in (
      subst (λ (s : CycleState). Counting (normal_step H k.mesh.pos.now k.mesh.face_normals.now N B) (normal_step_directionless H k.mesh.pos.now k.mesh.face_normals.now N B) (next_around H) k.mesh.n a.e (walk_of a.t.now a.fixed.now start_state) (walk_of a.t.now a.fixed.now s) 0 a.e) (sym q) (counting_start (next_permutes k.mesh.sound) c.requires.0),
      refl,
      refl,
      subst (StateIn k.mesh.n) (sym q) (state_start (λ (x : ℕ). x < k.mesh.n)),
      c.halfedge_normal-here.ensures,
    )

pub normal_after-next-requires : goal.normal_after-next-requires
normal_after-next-requires c =
    let w = c.args.walks.now in
    let k = w.lists in
    let l = c.loop-current.invariant.0.walking.below in
    (omega (arith, w.units.numbers, next_face_in k l c.next_around-following.ensures), next_in k l c.next_around-following.ensures, unit_is w.face_units.now (normal_of k) c.loop-current.current c.loop-current.invariant.4)

pub normal_step-step-requires : goal.normal_step-step-requires
normal_step-step-requires c =
    let l = c.loop-current in
    let w = c.args.walks.now in
    let fixed = l.invariant.2 ∙ c.requires.2 in
    rw c.from-faces.ensures (subst (λ (n : ℕ). l.current < n) (sym fixed) l.invariant.0.walking.below, making_in w.lists (l.invariant.1 ∙ c.requires.1) fixed, w.lists.mesh.triangle_normals ∙ sym fixed, w.flags ∙ sym fixed)

pub overflow_add-directionless : goal.overflow_add-directionless
overflow_add-directionless c =
    let w = c.args.walks.now in
    let k = w.lists in
    let one = normal_step_one (mesh_of k) k.mesh.pos.now k.mesh.face_normals.now (normal_of k) (is_inside w.inside.now) in
    omega (arith, counting_within (next_permutes k.mesh.sound) c.loop-current.invariant.0 one c.requires.0, normal_count_one _ _ _ _ c.normal_step-step.ensures.directionless, c.requires.1)

pub loop-current-smaller : goal.loop-current-smaller
loop-current-smaller c =
    counting_less (next_permutes c.args.walks.now.lists.mesh.sound) c.loop-current.invariant.0 c.next_around-following.ensures c.if-current-e.false

pub loop-current-preserved : goal.loop-current-preserved
loop-current-preserved c =
    let s = c.normal_step-step in
    let g = c.normal_after-next.ensures in
    let x = c.next_around-following.ensures in
    let l = c.loop-current in
    let w = c.args.walks.now in
    let k = w.lists in
    let i = l.invariant in
    let B = is_inside w.inside.now in
    let m = walk_of l.t l.fixed l.state in
    let b = i.0.walking.below in
    let done = stepped w c.from-faces.ensures m b (i.1 ∙ c.requires.1) i.4 g x s.ensures.state in (
      counting_step (next_permutes k.mesh.sound) l.invariant.0 x done (counts w c.from-faces.ensures m b (i.1 ∙ c.requires.1) i.4 g x s.ensures.directionless) c.if-current-e.false,
      s.auto.t ∙ l.invariant.1,
      s.auto.fixed ∙ l.invariant.2,
      state_after (λ (x : ℕ). x < k.mesh.n) b (mesh_of k) k.mesh.pos.now k.mesh.face_normals.now (normal_of k) B m done i.3,
      g,
    )

pub returns : goal.returns
unfolding normal_walk normal_walk_directionless
returns c =
    let s = c.normal_step-step in
    let g = c.normal_after-next.ensures in
    let x = c.next_around-following.ensures in
    let l = c.loop-current in
    let w = c.args.walks.now in
    let k = w.lists in
    let i = l.invariant in
    let B = is_inside w.inside.now in
    let m = walk_of l.t l.fixed l.state in
    let b = i.0.walking.below in
    let Q = next_permutes k.mesh.sound in
    let done = stepped w c.from-faces.ensures m b (i.1 ∙ c.requires.1) i.4 g x s.ensures.state in
    let more = counts w c.from-faces.ensures m b (i.1 ∙ c.requires.1) i.4 g x s.ensures.directionless in
    record {
      state = counting_state Q l.invariant.0 x done more c.if-current-e.true;
      state_in = state_after (λ (x : ℕ). x < k.mesh.n) b (mesh_of k) k.mesh.pos.now k.mesh.face_normals.now (normal_of k) B m done i.3;
      directionless = counting_count Q l.invariant.0 x done more c.if-current-e.true;
    }
