-- `walks::first_walk` meets its contract: the invariant is `FirstGoing`, and the measure the steps that are left.
use Rattle.mesh.specs.Mesh.{as_halfedges}
use Rattle.smoothing.specs.Lists.{tangent_at}
use Rattle.distribute.proofs.SpreadLaws.Loops.{first_left}
use Rattle.distribute.proofs.SpreadLaws.Bodies.{FirstGoing}
use Rattle.distribute.specs.Steps.FloatSteps.{begin}
use Rattle.distribute.specs.Steps.Scratch.{gathered_of}
use Rattle.distribute.specs.Walks.Walks.{steps_of}
use Rattle.distribute.proofs.walks.first_walk.Given as goal

abbrev pub invariant-loop-lists : goal.invariant-loop-lists
invariant-loop-lists l =
    FirstGoing (steps_of l.lists) l.t l.start l.initial.looked (begin (as_halfedges l.lists.h.now) l.lists.pos.now l.start (tangent_at l.t l.start)) l.here l.looked l.g.count (gathered_of l.current l.desired l.g)

abbrev pub decreases-loop-lists : goal.decreases-loop-lists
decreases-loop-lists l = first_left (steps_of l.lists) l.t l.here
