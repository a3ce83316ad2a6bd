-- What each loop body of making from normals does to the weights: it writes at its own halfedge only, the weight of a circular tangent or a flag. Assumes nothing.
use Prim.Native.Nat.{ℕ, ◌+◌, ◌*◌, ◌≤◌}
use native.Mathlib.Decide.{ℕ_discrete}
use mathlib.Core.Path.{◌≡◌, refl, sym, ap, ◌∙◌, subst}
use mathlib.Core.Logic.{◌⊎◌, inl, inr}
use mathlib.Core.Bool.{Bool, true, false, cond, true≢false}
use mathlib.Core.List.{List}
use lib.ListN.{length}
use lib.Ieee.{Float, lt, eq, neg, of_bits}
use Rattle.float.specs.Ops.{zero}
use Rattle.linalg.specs.declared.Vec3.{Vec3}
use Rattle.linalg.specs.declared.Vec4.{Vec4}
use Rattle.linalg.specs.Vec.{is_zero}
use Rattle.mesh.specs.Mesh.{Halfedges}
use Rattle.smoothing.specs.Directions.{circular_tangent, equal_normals}
use Rattle.smoothing.specs.Lists.{tangent_at, put_tangent, weight_at, is_marked_inside_quad}
use Rattle.smoothing.specs.Edges.{edge_vec, tangent_from_normal}
use Rattle.smoothing.proofs.Tangents.{length_put, weight_put_same, weight_put_other}
use Rattle.cycles.specs.Cycles.{next_around}
use Rattle.create_shared.specs.Makings.{Tangents, put_circular_tangent, align_tangents}
use Rattle.create_from_normals.specs.declared.state.FaceEdges.{FaceEdges}
use Rattle.create_from_normals.specs.declared.state.FaceEdges.TheVariants.{NoEdge, OneEdge, TwoEdges, Spoiled}
use Rattle.create_from_normals.specs.State.State.{is_missing, next_start, next_last, next_state, spoil_face_edges}
use Rattle.create_from_normals.specs.Steps.Steps.{tangent_between, inside_quad_weight, missing_normal_weight, flag_tangent, Walk, walk_of, tangent_step, normal_step, vert_normal_step, Fill, fill_tangent, put_fill_tangent, fill_step, fix_face_edges, align_face_edges}
use Rattle.create_from_normals.specs.declared.state.CycleState.{CycleState}
use Rattle.create_from_normals.proofs.StepsLaws.Carried.{one_above}
use Rattle.std.proofs.lemmas.Bool.{cond_both}
use Rattle.create_from_normals.specs.Weights.{MadeWeight, inside, circular}

-- ---- a write at halfedge e

pub record Writes (T U : List Float) (e : ℕ) : Type 0 where
  pub same_length : length U ≡ length T
  pub others : (d : ℕ) → (d ≡ e → ⊥) → weight_at U d ≡ weight_at T d

writes_none : (T : List Float) (e : ℕ) → Writes T T e
writes_none T e = record { same_length = refl; others = λ d q. refl }

writes_put : (T : List Float) (e : ℕ) (v : Vec4) → Writes T (put_tangent T e v) e
writes_put T e v = record { same_length = length_put T e v; others = weight_put_other T e v }

writes_both : {T U W : List Float} {e : ℕ} → Writes T U e → Writes U W e → Writes T W e
writes_both a b = record { same_length = b.same_length ∙ a.same_length; others = λ d q. b.others d q ∙ a.others d q }

-- ---- the comparisons of the flags

missing_missing : eq missing_normal_weight missing_normal_weight ≡ true
unfolding eq neg of_bits
missing_missing = refl

missing_inside : eq missing_normal_weight inside_quad_weight ≡ false
unfolding eq neg of_bits
missing_inside = refl

-- ---- the weight of halfedge e is made; or it is the flag of a missing normal

module _ (H : Halfedges) (P : List Float) where
  abbrev pub Made : List Float → ℕ → Type 0
  Made T e = MadeWeight H P e (weight_at T e)

  abbrev pub MadeOrMissing : List Float → ℕ → Type 0
  MadeOrMissing T e = Made T e ⊎ (weight_at T e ≡ missing_normal_weight)

  -- tangents with such a weight
  abbrev Circular : ℕ → Vec4 → Type 0
  Circular e v = (dir : Vec3) × (v.w ≡ (circular_tangent dir (edge_vec H P e)).w)

  put_circular : (T : List Float) (e : ℕ) (v : Vec4) → e * 4 + 4 ≤ length T → Circular e v → Made (put_tangent T e v) e
  put_circular T e v h (dir, q) = circular dir (weight_put_same T e v h ∙ q)

  from_normal : (A : List Float) (normal : Vec3) (e : ℕ) → Circular e (tangent_from_normal H P A normal e)
  unfolding tangent_from_normal
  from_normal A normal e = (_, refl)

  between : (A : List Float) (a b : Vec3) (equal : Bool) (e : ℕ) → Circular e (tangent_between H P A a b equal e)
  unfolding tangent_between
  between A a b true e = from_normal A a e
  between A a b false e = (_, refl)

  -- made before, it is made after a write that makes the one at e
  pub made_still : {T U : List Float} {e d : ℕ} → Writes T U e → Made U e → Made T d → Made U d
  made_still {T} {U} {e} {d} w m k = go (ℕ_discrete d e)
    where
      go : Dec (d ≡ e) → Made U d
      go (yes q) = subst (Made U) (sym q) m
      go (no q) = subst (MadeWeight H P d) (sym (w.others d q)) k

  -- ---- the loop where all normals are missing

  module _ (A : List Float) (normal : Vec3) (T : List Float) (e : ℕ) where
    pub vert_normal_writes : Writes T (vert_normal_step H P A normal T e) e
    unfolding vert_normal_step
    vert_normal_writes = cond_both (is_marked_inside_quad T e) _ _ (λ U. Writes T U e) (λ q. writes_none T e) (λ q. writes_put T e _)

    pub vert_normal_made : e * 4 + 4 ≤ length T → MadeOrMissing T e → Made (vert_normal_step H P A normal T e) e
    unfolding vert_normal_step
    vert_normal_made h w = cond_both (is_marked_inside_quad T e) _ _ (λ U. Made U e) (marked w) (λ q. put_circular T e _ h (from_normal A normal e))
      where
        marked : MadeOrMissing T e → is_marked_inside_quad T e ≡ true → Made T e
        marked (inl m) q = m
        marked (inr m) q = absurd (true≢false (sym q ∙ ap (λ (x : Float). eq x inside_quad_weight) m ∙ missing_inside))

  -- ---- the loop that goes round backwards

  module _ (A : List Float) (last prev : Vec3) (T : List Float) (e : ℕ) where
    put_fill_writes : Writes T (put_fill_tangent H P A last prev T e) e
    unfolding put_fill_tangent
    put_fill_writes = cond_both (eq (weight_at T e) missing_normal_weight) _ _ (λ U. Writes T U e) (λ q. writes_put T e _) (λ q. writes_none T e)

    put_fill_made : e * 4 + 4 ≤ length T → MadeOrMissing T e → Made (put_fill_tangent H P A last prev T e) e
    unfolding put_fill_tangent fill_tangent
    put_fill_made h w = cond_both (eq (weight_at T e) missing_normal_weight) _ _ (λ U. Made U e) (λ q. put_circular T e _ h (between A _ _ _ e)) (unflagged w)
      where
        unflagged : MadeOrMissing T e → eq (weight_at T e) missing_normal_weight ≡ false → Made T e
        unflagged (inl m) q = m
        unflagged (inr m) q = absurd (true≢false (sym missing_missing ∙ ap (λ (x : Float). eq x missing_normal_weight) (sym m) ∙ q))

  module _ (A : List Float) (normal : ℕ → Vec3) (last : Vec3) (m : Fill) (e : ℕ) where
    pub fill_writes : Writes m.tangents (fill_step H P A normal last m e).tangents e
    unfolding fill_step
    fill_writes = put_fill_writes A last m.prev_norm m.tangents e

    pub fill_made : e * 4 + 4 ≤ length m.tangents → MadeOrMissing m.tangents e → Made (fill_step H P A normal last m e).tangents e
    unfolding fill_step
    fill_made = put_fill_made A last m.prev_norm m.tangents e

  -- ---- the two edges of a single flat face

  put_keeps : (T : List Float) (e : ℕ) (dir : Vec3) (d : ℕ) → d * 4 + 4 ≤ length T → Made T d → Made (put_circular_tangent H P T e dir) d
  unfolding put_circular_tangent
  put_keeps T e dir d h m = go (ℕ_discrete d e)
    where
      go : Dec (d ≡ e) → Made (put_tangent T e (circular_tangent dir (edge_vec H P e))) d
      go (yes q) = rw (← q) (put_circular T d _ h (dir, refl))
      go (no q) = subst (MadeWeight H P d) (sym (weight_put_other T e _ d q)) m

  put_length : (T : List Float) (e : ℕ) (dir : Vec3) → length (put_circular_tangent H P T e dir) ≡ length T
  unfolding put_circular_tangent
  put_length T e dir = length_put T e _

  pub align_length : (m : Tangents) (f : FaceEdges) → length (align_face_edges H P m f).tangents ≡ length m.tangents
  unfolding align_face_edges fix_face_edges align_tangents
  align_length m NoEdge = refl
  align_length m (OneEdge a) = refl
  align_length m (TwoEdges a b) = put_length _ b _ ∙ put_length m.tangents a _
  align_length m Spoiled = refl

  pub align_keeps : (m : Tangents) (f : FaceEdges) (d : ℕ) → d * 4 + 4 ≤ length m.tangents → Made m.tangents d → Made (align_face_edges H P m f).tangents d
  unfolding align_face_edges fix_face_edges align_tangents
  align_keeps m NoEdge d h k = k
  align_keeps m (OneEdge a) d h k = k
  align_keeps m (TwoEdges a b) d h k =
      put_keeps _ b _ d (subst (λ (l : ℕ). d * 4 + 4 ≤ l) (sym (put_length m.tangents a _)) h) (put_keeps m.tangents a _ d h k)
  align_keeps m Spoiled d h k = k

  -- ---- the first loop

  module _ (A : List Float) (normal : ℕ → Vec3) (in_quad : ℕ → Bool) where
    -- what the first loop leaves at halfedge e: -3 only where a normal is missing
    abbrev pub Flagged : List Float → ℕ → Type 0
    Flagged T e = Made T e ⊎ ((weight_at T e ≡ missing_normal_weight) × (is_missing H normal e ≡ true))

    tangent_writes : (m : Walk) (e : ℕ) → Writes m.tangents (tangent_step H P A normal m e).tangents e
    unfolding tangent_step
    tangent_writes m e =
        let put = writes_put m.tangents e _ in
        cond_both (equal_normals (normal (next_around H e)) (normal e)) _ _ (λ (k : Walk). Writes m.tangents k.tangents e) (λ q. put) (λ q. put)

    tangent_made : (m : Walk) (e : ℕ) → e * 4 + 4 ≤ length m.tangents → Made (tangent_step H P A normal m e).tangents e
    unfolding tangent_step
    tangent_made m e h =
        cond_both (equal_normals (normal (next_around H e)) (normal e)) _ _ (λ (k : Walk). Made k.tangents e) (λ q. put_circular m.tangents e _ h (between A _ _ _ e)) (λ q. put_circular m.tangents e _ h (between A _ _ _ e))

    -- the walk after the flag is written at halfedge e
    abbrev flagged : Walk → ℕ → Walk
    flagged m e =
        let s = next_state H A normal m.state e in
        walk_of (put_tangent m.tangents e (flag_tangent (is_missing H normal e) (in_quad e) s.last_normal (tangent_at m.tangents e))) m.fixed s

    abbrev is_negative : Walk → ℕ → Bool
    is_negative k e = lt (weight_at k.tangents e) zero

    pub normal_writes : (m : Walk) (e : ℕ) → Writes m.tangents (normal_step H P A normal in_quad m e).tangents e
    unfolding normal_step
    normal_writes m e =
        let put = writes_put m.tangents e _ in
        cond_both (is_negative (flagged m e) e) _ _ (λ (k : Walk). Writes m.tangents k.tangents e) (λ q. put) (λ q. writes_both put (tangent_writes (flagged m e) e))

    module _ (m : Walk) (e : ℕ) (h : e * 4 + 4 ≤ length m.tangents) where
      -- by whether a normal is missing, whether e is inside a quad, and whether the weight is below 0
      flag_cases : (missing is_inside negative : Bool) (last : Vec3) (k : Walk) → is_missing H normal e ≡ missing
          → k.tangents ≡ put_tangent m.tangents e (flag_tangent missing is_inside last (tangent_at m.tangents e))
          → lt (weight_at k.tangents e) zero ≡ negative → Flagged (cond negative k (tangent_step H P A normal k e)).tangents e
      unfolding flag_tangent
      flag_cases missing is_inside false last k p q b = inl (tangent_made k e (subst (λ (l : ℕ). e * 4 + 4 ≤ l) (sym (ap length q ∙ length_put m.tangents e _)) h))
      flag_cases missing true true last k p q b = inl (inside (ap (λ (T : List Float). weight_at T e) q ∙ weight_put_same m.tangents e _ h))
      flag_cases true false true last k p q b = inr (ap (λ (T : List Float). weight_at T e) q ∙ weight_put_same m.tangents e _ h, p)
      flag_cases false false true last k p q b =
          absurd (true≢false (sym b ∙ ap (λ (w : Float). lt w zero) (ap (λ (T : List Float). weight_at T e) q ∙ weight_put_same m.tangents e _ h) ∙ one_above))

      pub normal_flagged : Flagged (normal_step H P A normal in_quad m e).tangents e
      unfolding normal_step
      normal_flagged = flag_cases (is_missing H normal e) (in_quad e) (is_negative (flagged m e) e) _ (flagged m e) refl refl refl

    -- the state: `start_halfedge` and `last_normal`, which a halfedge without a flag leaves as they are
    module _ {Q : Type 0} (of : CycleState → Q) (spoiled : (s : CycleState) → of (spoil_face_edges s) ≡ of s) where
      tangent_state : (m : Walk) (e : ℕ) → of (tangent_step H P A normal m e).state ≡ of m.state
      unfolding tangent_step
      tangent_state m e =
          cond_both (equal_normals (normal (next_around H e)) (normal e)) _ _ (λ (k : Walk). of k.state ≡ of m.state) (λ q. refl) (λ q. spoiled m.state)

      normal_state : (m : Walk) (e : ℕ) → of (normal_step H P A normal in_quad m e).state ≡ of (next_state H A normal m.state e)
      unfolding normal_step
      normal_state m e =
          cond_both (is_negative (flagged m e) e) _ _ (λ (k : Walk). of k.state ≡ of (flagged m e).state) (λ q. refl) (λ q. tangent_state (flagged m e) e)

    pub normal_start : (m : Walk) (e : ℕ) → (normal_step H P A normal in_quad m e).state.start_halfedge ≡ next_start (is_zero (normal e)) (is_zero (normal (next_around H e))) m.state.start_halfedge e
    unfolding next_state spoil_face_edges
    normal_start m e = normal_state (λ s. s.start_halfedge) (λ s. refl) m e

    pub normal_last : (m : Walk) (e : ℕ) → (normal_step H P A normal in_quad m e).state.last_normal ≡ next_last (is_zero (normal e)) (is_zero (normal (next_around H e))) (normal e) m.state.last_normal
    unfolding next_state spoil_face_edges
    normal_last m e = normal_state (λ s. s.last_normal) (λ s. refl) m e
