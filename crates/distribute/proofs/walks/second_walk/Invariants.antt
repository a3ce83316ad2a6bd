-- `walks::second_walk` meets its contract: the invariant is `SecondGoing`, and the measure the steps that are left.
use mathlib.Core.List.{List}
use Prim.Native.Nat.{ℕ, suc}
use Rattle.mesh.specs.Mesh.{as_halfedges}
use Rattle.cycles.specs.Cycles.{next_around}
use Rattle.cycles.proofs.Paths.{steps_left}
use Rattle.distribute.specs.Steps.FloatSteps.{is_fixed}
use Rattle.distribute.specs.Steps.Scratch.{plan_of}
use Rattle.distribute.specs.declared.walks.Counts.{Counts}
use Rattle.distribute.proofs.WalksLaws.Lawful.{laws}
use Rattle.distribute.proofs.WalksLaws.Bodies.{SecondGoing}
use Rattle.distribute.proofs.walks.second_walk.Given as goal

abbrev pub invariant-walk : goal.invariant-walk
invariant-walk l =
    (k : Counts) (places : List ℕ)
    → SecondGoing (laws l.lists) l.initial.t l.start l.by.count (plan_of l.current l.initial.desired l.by 0) l.t l.here l.i (plan_of l.current l.desired l.by l.i) k places

abbrev pub decreases-walk : goal.decreases-walk
decreases-walk l = steps_left (next_around (as_halfedges l.lists.h.now)) (is_fixed l.lists.fixed.now) (suc l.lists.n) l.here
