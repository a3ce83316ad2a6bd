-- On an accepted mesh the lent lists hold what the module `steps` reads and writes, and a walk names only such halfedges as it comes by. Assumes nothing.
use Prim.Native.Nat.{ℕ}
use mathlib.Core.Path.{◌≡◌, sym, subst}
use mathlib.Core.Bool.{Bool, true, false, xor}
use mathlib.Core.List.{List}
use lib.Ieee.{Float, lt}
use Rattle.float.specs.Ops.{zero}
use Rattle.linalg.specs.declared.Vec3.{Vec3}
use Rattle.mesh.specs.Mesh.{Halfedges}
use Rattle.smoothing.specs.Directions.{equal_normals}
use Rattle.smoothing.specs.Lists.{tangent_at, put_tangent, weight_at}
use Rattle.cycles.specs.Cycles.{next_around}
use Rattle.create_from_normals.specs.declared.state.FaceEdges.{FaceEdges}
use Rattle.create_from_normals.specs.declared.state.FaceEdges.TheVariants.{NoEdge, OneEdge, TwoEdges, Spoiled}
use Rattle.create_from_normals.specs.declared.state.StartHalfedge.{StartHalfedge}
use Rattle.create_from_normals.specs.declared.state.StartHalfedge.TheVariants.{NoneMissing, SomeMissing, StartAt}
use Rattle.create_from_normals.specs.declared.state.CycleState.{CycleState}
use Rattle.create_from_normals.specs.State.State.{is_missing, add_face_edge, next_face_edges, set_start, missing_start, next_start, start_state, next_state, spoil_face_edges}
use Rattle.std.proofs.lemmas.Bool.{cond_both}
use Rattle.create_from_normals.specs.Steps.Steps.{FaceEdgesNames, StartNames, StateNames, flag_tangent, Walk, walk_of, tangent_step, normal_step}

-- ---- the halfedges that a walk names are such as it comes by

module _ (Q : ℕ → Type 0) where
  pub state_start : StateNames Q start_state
  state_start = record { face_edges = tt; start_halfedge = tt }

  module _ {e : ℕ} (h : Q e) where
    face_edge_added : (f : FaceEdges) → FaceEdgesNames Q f → FaceEdgesNames Q (add_face_edge f e)
    unfolding add_face_edge
    face_edge_added NoEdge w = h
    face_edge_added (OneEdge a) w = (w, h)
    face_edge_added (TwoEdges a b) w = tt
    face_edge_added Spoiled w = tt

    start_set : (s to : StartHalfedge) → StartNames Q s → StartNames Q to → StartNames Q (set_start s to)
    unfolding set_start
    start_set NoneMissing to w k = k
    start_set SomeMissing to w k = k
    start_set (StartAt a) to w k = w

    face_edges_next : (here next : Bool) (f : FaceEdges) → FaceEdgesNames Q f → FaceEdgesNames Q (next_face_edges here next f e)
    unfolding next_face_edges xor
    face_edges_next true true f w = w
    face_edges_next true false f w = face_edge_added f w
    face_edges_next false true f w = face_edge_added f w
    face_edges_next false false f w = w

    start_next : (here next : Bool) (s : StartHalfedge) → StartNames Q s → StartNames Q (next_start here next s e)
    unfolding next_start missing_start
    start_next true true s w = start_set s SomeMissing w tt
    start_next true false s w = start_set s (StartAt e) w h
    start_next false next s w = w

    module _ (H : Halfedges) (P A : List Float) (normal : ℕ → Vec3) (inside : ℕ → Bool) where
      state_next : (s : CycleState) → StateNames Q s → StateNames Q (next_state H A normal s e)
      unfolding next_state
      state_next s w = record {
        face_edges = face_edges_next _ _ s.face_edges w.face_edges;
        start_halfedge = start_next _ _ s.start_halfedge w.start_halfedge;
      }

      tangent_state : (m : Walk) → StateNames Q m.state → StateNames Q (tangent_step H P A normal m e).state
      unfolding tangent_step spoil_face_edges
      tangent_state m w = cond_both (equal_normals (normal (next_around H e)) (normal e)) _ _ (λ (k : Walk). StateNames Q k.state) (λ q. w) (λ q. record { face_edges = tt; start_halfedge = w.start_halfedge })

      -- after the body of the first loop, at halfedge e
      pub state_step : (m : Walk) → StateNames Q m.state → StateNames Q (normal_step H P A normal inside m e).state
      unfolding normal_step
      state_step m w =
          let k = state_next m.state w in
          let T = put_tangent m.tangents e (flag_tangent (is_missing H normal e) (inside e) (next_state H A normal m.state e).last_normal (tangent_at m.tangents e)) in
          cond_both (lt (weight_at T e) zero) _ _ (λ (k : Walk). StateNames Q k.state) (λ q. k) (λ q. tangent_state (walk_of T m.fixed (next_state H A normal m.state e)) k)

      pub state_after : (m : Walk) {m' : Walk} → m' ≡ normal_step H P A normal inside m e → StateNames Q m.state → StateNames Q m'.state
      state_after m q w = subst (λ (z : Walk). StateNames Q z.state) (sym q) (state_step m w)
