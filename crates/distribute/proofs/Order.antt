-- The order rule of the call, from what it answers and leaves.
use mathlib.Core.List.{List}
use Prim.Native.Nat.{ℕ}
use lib.Ieee.{Float}
use Rattle.std.specs.Prelude.{Ok}
use Rattle.mesh.specs.Mesh.{Halfedges}
use Rattle.distribute.proofs.SpreadLaws.Order.{order_free}
use Rattle.distribute.specs.Steps.FloatSteps.{float_steps}
use Rattle.distribute.specs.declared.walks.Counts.{Counts}
use Rattle.distribute.specs.Distribute.{spread_tangents, Reports, AnyOrder}
use Rattle.distribute.proofs.WalksLaws.Lawful.{lawful}
use Rattle.distribute.proofs.Accepted.{lists_of}

module _ (H : Halfedges) (P N : List Float) (F : List ℕ) (T C D : List Float) (n p : ℕ) where
  pub any_order : {after : List Float} {k : Counts} → Reports (float_steps H P N F n) (spread_tangents H P N F T n) after k → AnyOrder H P N F T C D n p after (Ok k)
  any_order w acc starts names =
      let l = lists_of H P N F T C D n p acc in
      rw (w.tangents_are, w.looked_is, w.turned_is) (order_free (lawful l.0 P N F) T l.1.tangents starts names)
