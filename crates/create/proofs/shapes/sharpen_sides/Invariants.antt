-- `create::shapes::sharpen_sides` meets its contract: a walk once round a vertex cycle. The invariant: what is left of the fold gives the whole. Assumes nothing.
use Rattle.create.specs.Shapes.Lent.{mesh_of}
use Rattle.create.specs.Shapes.Sharpen.{sides_of, sharpen_side}
use Rattle.cycles.proofs.Loops.{Walking}
use Rattle.cycles.proofs.Paths.{is_at, steps_left}
use Rattle.cycles.specs.Cycles.{next_around, vertex_cycle}
use Rattle.cycles.specs.Walk.{cycle_from}
use lib.ListN.{length}
use mathlib.Core.List.{foldl}
use mathlib.Core.Path.{◌≡◌}
use Rattle.create.proofs.shapes.sharpen_sides.Given as goal

abbrev pub invariant-loop-current : goal.invariant-loop-current
invariant-loop-current l =
    Walking (next_around (mesh_of l.lists)) l.lists.creases.n (is_at l.first) l.lists.creases.n l.first l.current × (length l.t ≡ length l.initial.t)
    × (foldl (sharpen_side l.first l.second l.beyond) (sides_of l.t l.s) (cycle_from (next_around (mesh_of l.lists)) l.lists.creases.n l.first l.current) ≡ foldl (sharpen_side l.first l.second l.beyond) (sides_of l.initial.t l.between) (vertex_cycle (mesh_of l.lists) l.lists.creases.n l.first))

abbrev pub decreases-loop-current : goal.decreases-loop-current
decreases-loop-current l = steps_left (next_around (mesh_of l.lists)) (is_at l.first) l.lists.creases.n l.current
