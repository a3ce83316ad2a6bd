-- `create_from_normals::walks::normal_walk` meets its contract: a walk once round a vertex cycle. The invariant: what is left of the counted fold gives the whole, and the normal that is carried is the current halfedge's. Assumes nothing.
use Rattle.create_from_normals.specs.Walks.Lists.{mesh_of, normal_of}
use Rattle.create_from_normals.proofs.WalksLaws.Counting.{Counting}
use Rattle.create_from_normals.specs.Steps.Steps.{StateIn, walk_of, normal_step, normal_step_directionless}
use Rattle.create_from_normals.specs.Steps.Carried.{is_inside}
use Rattle.create_from_normals.specs.State.State.{start_state}
use Rattle.create_from_normals.specs.State.Carried.{halfedge_normal}
use Rattle.cycles.proofs.Paths.{is_at, steps_left}
use Rattle.cycles.specs.Cycles.{next_around}
use lib.ListN.{length}
use mathlib.Core.Path.{◌≡◌}
use Rattle.create_from_normals.proofs.walks.normal_walk.Given as goal

abbrev pub invariant-loop-current : goal.invariant-loop-current
invariant-loop-current l =
    let k = l.walks.lists in
    Counting (normal_step (mesh_of k) k.mesh.pos.now k.mesh.face_normals.now (normal_of k) (is_inside l.walks.inside.now)) (normal_step_directionless (mesh_of k) k.mesh.pos.now k.mesh.face_normals.now (normal_of k) (is_inside l.walks.inside.now)) (next_around (mesh_of k)) k.mesh.n l.e (walk_of l.initial.t l.initial.fixed start_state) (walk_of l.t l.fixed l.state) l.directionless l.current
    × (length l.t ≡ length l.initial.t) × (length l.fixed ≡ length l.initial.fixed) × StateIn k.mesh.n l.state
    × (l.here ≡ halfedge_normal l.walks.face_units.now (normal_of k) l.current)

abbrev pub decreases-loop-current : goal.decreases-loop-current
decreases-loop-current l = steps_left (next_around (mesh_of l.walks.lists)) (is_at l.e) l.walks.lists.mesh.n l.current
