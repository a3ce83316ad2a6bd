-- `create_from_normals::walks::fill_walk` meets its contract: a walk once round a vertex cycle, backwards. The invariant: what is left of the counted fold gives the whole. Assumes nothing.
use Rattle.create_from_normals.specs.Walks.Walks.{fill_walk, fill_walk_directionless}
use Rattle.create_from_normals.proofs.WalksLaws.Counting.{Counting, counting_start, counting_step, counting_less, counting_within, counting_state, counting_count}
use Rattle.create_from_normals.specs.Steps.Steps.{Fill, fill_of, fill_step, fill_directionless}
use Rattle.create_from_normals.proofs.StepsLaws.Counts.{fill_one}
use Rattle.create_from_normals.proofs.WalksLaws.Lent.{next_in}
use Rattle.linalg.specs.declared.Vec3.{Vec3}
use Rattle.create_from_normals.specs.Walks.Lists.{mesh_of, normal_of}
use Rattle.cycles.proofs.Around.{prev_permutes}
use Rattle.cycles.specs.Cycles.{prev_around, next_around}
use native.Mathlib.Omega.{arith}
use mathlib.Core.Path.{refl, sym, ap, subst, ◌∙◌}
use Rattle.create_from_normals.proofs.walks.fill_walk.Goals as goal

pub get_normal-prev-requires : goal.get_normal-prev-requires
get_normal-prev-requires c =
    next_in c.args.lists.now c.requires.0 c.next_around-next.ensures

pub loop-current-init : goal.loop-current-init
loop-current-init c =
    let a = c.args in
    let k = a.lists.now in
    let q = c.get_normal-prev.ensures ∙ ap (normal_of k) c.next_around-next.ensures in
    let N = normal_of k in
    let H = mesh_of k in (
      subst (λ (v : Vec3). Counting (fill_step H k.mesh.pos.now k.mesh.face_normals.now N a.last) (λ (m : Fill). fill_directionless H k.mesh.pos.now m.tangents) (prev_around H) k.mesh.n a.start (fill_of a.t.now (N (next_around H a.start))) (fill_of a.t.now v) 0 a.start) (sym q) (counting_start (prev_permutes k.mesh.sound) c.requires.0),
      refl,
    )

pub overflow_add-directionless : goal.overflow_add-directionless
overflow_add-directionless c =
    let k = c.args.lists.now in
    let one = fill_one (mesh_of k) k.mesh.pos.now in
    omega (arith, counting_within (prev_permutes k.mesh.sound) c.loop-current.invariant.0 (λ m. one m.tangents) c.requires.0, rw c.from-faces.ensures at c.fill_step-step.ensures.directionless, one c.loop-current.t c.loop-current.current, c.requires.1)

pub loop-current-smaller : goal.loop-current-smaller
loop-current-smaller c =
    counting_less (prev_permutes c.args.lists.now.mesh.sound) c.loop-current.invariant.0 c.prev_around-current.ensures c.if-current-start.false

pub loop-current-preserved : goal.loop-current-preserved
loop-current-preserved c =
    let m = c.fill_step-step in
    let l = c.loop-current in
    let done = rw c.from-faces.ensures at m.ensures.fill in
    let counts = rw c.from-faces.ensures at m.ensures.directionless in
    (counting_step (prev_permutes c.args.lists.now.mesh.sound) l.invariant.0 c.prev_around-current.ensures done counts c.if-current-start.false, m.auto.t ∙ l.invariant.1)

pub returns : goal.returns
unfolding fill_walk fill_walk_directionless
returns c =
    let m = c.fill_step-step in
    let done = rw c.from-faces.ensures at m.ensures.fill in
    let counts = rw c.from-faces.ensures at m.ensures.directionless in
    let Q = prev_permutes c.args.lists.now.mesh.sound in
    let w = c.loop-current.invariant.0 in record {
      tangents = ap (λ (k : Fill). k.tangents) (counting_state Q w c.prev_around-current.ensures done counts c.if-current-start.true);
      directionless = counting_count Q w c.prev_around-current.ensures done counts c.if-current-start.true;
    }
