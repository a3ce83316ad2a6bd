-- `create_from_normals::walks::vert_normal_walk` meets its contract: a walk once round a vertex cycle. The invariant: what is left of the counted fold gives the whole. Assumes nothing.
use Rattle.create_from_normals.specs.Walks.Lists.{mesh_of}
use Rattle.create_from_normals.proofs.WalksLaws.Counting.{Counting}
use Rattle.create_from_normals.specs.Steps.Steps.{vert_normal_step, vert_normal_directionless}
use Rattle.cycles.proofs.Paths.{is_at, steps_left}
use Rattle.cycles.specs.Cycles.{next_around}
use lib.ListN.{length}
use mathlib.Core.Path.{◌≡◌}
use Rattle.create_from_normals.proofs.walks.vert_normal_walk.Given as goal

abbrev pub invariant-loop-current : goal.invariant-loop-current
invariant-loop-current l =
    Counting (vert_normal_step (mesh_of l.lists) l.lists.mesh.pos.now l.lists.mesh.face_normals.now l.normal) (vert_normal_directionless (mesh_of l.lists) l.lists.mesh.pos.now) (next_around (mesh_of l.lists)) l.lists.mesh.n l.e l.initial.t l.t l.directionless l.current
    × (length l.t ≡ length l.initial.t)

abbrev pub decreases-loop-current : goal.decreases-loop-current
decreases-loop-current l = steps_left (next_around (mesh_of l.lists)) (is_at l.e) l.lists.mesh.n l.current
