-- `preview::walks::second_walk` meets its contract: the invariant is `Showing`, and the measure the steps that are left.
use mathlib.Core.List.{List}
use Prim.Native.Nat.{ℕ, suc}
use lib.Ieee.{Float}
use Rattle.mesh.specs.Mesh.{as_halfedges}
use Rattle.cycles.specs.Cycles.{next_around}
use Rattle.cycles.proofs.Paths.{steps_left}
use Rattle.distribute.specs.Steps.FloatSteps.{Plan, is_fixed}
use Rattle.distribute.specs.declared.walks.Counts.{Counts}
use Rattle.distribute.proofs.PreviewLaws.Lawful.{laws_at}
use Rattle.distribute.proofs.PreviewLaws.Second.{Showing}
use Rattle.distribute.proofs.preview.walks.second_walk.Given as goal

abbrev pub invariant-walk : goal.invariant-walk
invariant-walk l =
    (P N : List Float) (by : Plan) (k : Counts) (places : List ℕ) → Showing (laws_at l.walk.lists.now P N) l.walk.t.now l.walk.start l.initial.bytes by k places l.here l.i l.bytes

abbrev pub decreases-walk : goal.decreases-walk
decreases-walk l = steps_left (next_around (as_halfedges l.walk.lists.now.h.now)) (is_fixed l.walk.lists.now.fixed.now) (suc l.walk.lists.now.n) l.here
