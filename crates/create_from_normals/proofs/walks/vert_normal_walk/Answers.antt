-- `create_from_normals::walks::vert_normal_walk` meets its contract: a walk once round a vertex cycle. The invariant: what is left of the counted fold gives the whole. Assumes nothing.
use Rattle.create_from_normals.specs.Walks.Walks.{vert_normal_walk, vert_normal_walk_directionless}
use Rattle.create_from_normals.proofs.WalksLaws.Counting.{counting_start, counting_step, counting_less, counting_within, counting_state, counting_count}
use Rattle.create_from_normals.proofs.StepsLaws.Counts.{vert_normal_one}
use Rattle.create_from_normals.specs.Walks.Lists.{mesh_of}
use Rattle.cycles.proofs.Around.{next_permutes}
use native.Mathlib.Omega.{arith}
use mathlib.Core.Path.{refl, ◌∙◌}
use Rattle.create_from_normals.proofs.walks.vert_normal_walk.Goals as goal

pub loop-current-init : goal.loop-current-init
loop-current-init c =
    (counting_start (next_permutes c.args.lists.now.mesh.sound) c.requires.0, refl)

pub overflow_add-directionless : goal.overflow_add-directionless
overflow_add-directionless c =
    let k = c.args.lists.now in
    let one = vert_normal_one (mesh_of k) k.mesh.pos.now in
    omega (arith, counting_within (next_permutes k.mesh.sound) c.loop-current.invariant.0 one c.requires.0, rw c.from-faces.ensures at c.vert_normal_step-directionless.ensures.directionless, one c.loop-current.t c.loop-current.current, c.requires.1)

pub loop-current-smaller : goal.loop-current-smaller
loop-current-smaller c =
    counting_less (next_permutes c.args.lists.now.mesh.sound) c.loop-current.invariant.0 c.next_around-current.ensures c.if-current-e.false

pub loop-current-preserved : goal.loop-current-preserved
loop-current-preserved c =
    let m = c.vert_normal_step-directionless in
    let l = c.loop-current in
    let done = rw c.from-faces.ensures at m.ensures.tangents in
    let counts = rw c.from-faces.ensures at m.ensures.directionless in
    (counting_step (next_permutes c.args.lists.now.mesh.sound) l.invariant.0 c.next_around-current.ensures done counts c.if-current-e.false, m.auto.t ∙ l.invariant.1)

pub returns : goal.returns
unfolding vert_normal_walk vert_normal_walk_directionless
returns c =
    let m = c.vert_normal_step-directionless in
    let done = rw c.from-faces.ensures at m.ensures.tangents in
    let counts = rw c.from-faces.ensures at m.ensures.directionless in
    let Q = next_permutes c.args.lists.now.mesh.sound in
    let w = c.loop-current.invariant.0 in record {
      tangents = counting_state Q w c.next_around-current.ensures done counts c.if-current-e.true;
      directionless = counting_count Q w c.next_around-current.ensures done counts c.if-current-e.true;
    }
