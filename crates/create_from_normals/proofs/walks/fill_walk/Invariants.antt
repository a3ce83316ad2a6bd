-- `create_from_normals::walks::fill_walk` meets its contract: a walk once round a vertex cycle, backwards. The invariant: what is left of the counted fold gives the whole. Assumes nothing.
use Rattle.create_from_normals.specs.Walks.Lists.{mesh_of, normal_of}
use Rattle.create_from_normals.proofs.WalksLaws.Counting.{Counting}
use Rattle.create_from_normals.specs.Steps.Steps.{Fill, fill_of, fill_step, fill_directionless}
use Rattle.cycles.proofs.Paths.{is_at, steps_left}
use Rattle.cycles.specs.Cycles.{next_around, prev_around}
use lib.ListN.{length}
use mathlib.Core.Path.{◌≡◌}
use Rattle.create_from_normals.proofs.walks.fill_walk.Given as goal

abbrev pub invariant-loop-current : goal.invariant-loop-current
invariant-loop-current l =
    Counting (fill_step (mesh_of l.lists) l.lists.mesh.pos.now l.lists.mesh.face_normals.now (normal_of l.lists) l.last) (λ (m : Fill). fill_directionless (mesh_of l.lists) l.lists.mesh.pos.now m.tangents) (prev_around (mesh_of l.lists)) l.lists.mesh.n l.start (fill_of l.initial.t (normal_of l.lists (next_around (mesh_of l.lists) l.start))) (fill_of l.t l.prev) l.directionless l.current
    × (length l.t ≡ length l.initial.t)

abbrev pub decreases-loop-current : goal.decreases-loop-current
decreases-loop-current l = steps_left (prev_around (mesh_of l.lists)) (is_at l.start) l.lists.mesh.n l.current
