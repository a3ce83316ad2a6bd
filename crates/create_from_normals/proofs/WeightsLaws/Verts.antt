-- A point: where every weight is made before, every weight is made after. The first loop leaves the flag of a missing normal only in the vertex cycle that it walks, and what follows it writes each of these anew. Assumes nothing.
use Prim.Native.Nat.{ℕ, zero, suc, ◌+◌, ◌*◌, ◌≤◌, ◌<◌}
use native.Mathlib.Omega.{arith}
use native.Mathlib.Decide.{ℕ_discrete}
use mathlib.Core.Path.{◌≡◌, refl, sym, ap, ◌∙◌, subst}
use mathlib.Core.Logic.{◌⊎◌, inl, inr}
use mathlib.Core.Bool.{Bool, true, false, true≢false, ◌&&◌, ◌||◌}
use mathlib.Core.List.{List, foldl}
use borrow.Author.Tests.{ltb-true}
use lib.Dec.{ltb}
use lib.ListN.{length}
use lib.Ieee.{Float, eq, of_bits}
use Rattle.linalg.specs.declared.Vec3.{Vec3}
use Rattle.linalg.specs.Vec.{is_zero}
use Rattle.mesh.specs.Mesh.{Halfedges}
use Rattle.mesh.specs.Sound.{Sound}
use Rattle.smoothing.specs.Lists.{point_at, weight_at}
use Rattle.cycles.specs.Count.{◌∈◌}
use Rattle.cycles.specs.Walk.{iter}
use Rattle.cycles.specs.Cycles.{next_around, vertex_cycle, vertex_cycle_back}
use Rattle.cycles.proofs.Paths.{iter_zero, iter_suc}
use Rattle.cycles.proofs.Orbits.{cycle_reached, cycle_all, cycle_below, cycles_equal}
use Rattle.cycles.proofs.Around.{next_permutes, cycle_ways}
use Rattle.create_shared.specs.Verts.{vert_halfedge}
use Rattle.create_shared.specs.Makings.{Tangents, tangents_of}
use Rattle.create_from_normals.specs.declared.state.StartHalfedge.{StartHalfedge}
use Rattle.create_from_normals.specs.declared.state.StartHalfedge.TheVariants.{NoneMissing, SomeMissing, StartAt}
use Rattle.create_from_normals.specs.State.State.{is_missing, some_missing, set_start, missing_start, next_start, next_last, zero_normal, start_state}
use Rattle.create_from_normals.specs.Steps.Steps.{missing_normal_weight, Walk, walk_of, normal_step, vert_normal_step, fill_of, fill_step}
use Rattle.create_from_normals.specs.Walks.Walks.{normal_walk, vert_normal_walk, fill_walk, fill_missing, finish_vert, normals_vert}
use Rattle.std.proofs.lemmas.Bool.{cond_both}
use Rattle.create_from_normals.proofs.WeightsLaws.Folds.{list_keeps, list_gains}
use Rattle.create_from_normals.proofs.WeightsLaws.Writes.{Writes, Made, MadeOrMissing, vert_normal_writes, vert_normal_made, fill_writes, fill_made, align_length, align_keeps, Flagged, normal_writes, normal_flagged, normal_start, normal_last}

-- ---- `start_halfedge` and `last_normal`, one halfedge after the other

abbrev is_start : StartHalfedge → Bool
is_start NoneMissing = false
is_start SomeMissing = false
is_start (StartAt e) = true

-- once some normal is missing, it stays so; and a start is kept
some_kept : (here next : Bool) (s : StartHalfedge) (e : ℕ) → some_missing s ≡ true → some_missing (next_start here next s e) ≡ true
unfolding next_start missing_start set_start
some_kept false next s e k = k
some_kept true true NoneMissing e k = refl
some_kept true false NoneMissing e k = refl
some_kept true true SomeMissing e k = refl
some_kept true false SomeMissing e k = refl
some_kept true next (StartAt a) e k = refl

start_kept : (here next : Bool) (s : StartHalfedge) (e : ℕ) → is_start s ≡ true → is_start (next_start here next s e) ≡ true
unfolding next_start missing_start set_start
start_kept false next s e k = k
start_kept true next NoneMissing e k = absurd (true≢false (sym k))
start_kept true next SomeMissing e k = absurd (true≢false (sym k))
start_kept true next (StartAt a) e k = refl

-- at a missing normal; and where the next one is there
some_set : (next : Bool) (s : StartHalfedge) (e : ℕ) → some_missing (next_start true next s e) ≡ true
unfolding next_start missing_start set_start
some_set true NoneMissing e = refl
some_set false NoneMissing e = refl
some_set true SomeMissing e = refl
some_set false SomeMissing e = refl
some_set next (StartAt a) e = refl

start_set : (s : StartHalfedge) (e : ℕ) → is_start (next_start true false s e) ≡ true
unfolding next_start missing_start set_start
start_set NoneMissing e = refl
start_set SomeMissing e = refl
start_set (StartAt a) e = refl

last_kept : (next : Bool) (normal last : Vec3) → next_last true next normal last ≡ last
unfolding next_last
last_kept next normal last = refl

zero_normal_lem : is_zero zero_normal ≡ true
unfolding is_zero eq of_bits
zero_normal_lem = refl

-- the start is a halfedge of the list
abbrev StartOf : List ℕ → StartHalfedge → Type 0
StartOf xs NoneMissing = Unit {0}
StartOf xs SomeMissing = Unit {0}
StartOf xs (StartAt e) = e ∈ xs

start_of : (xs : List ℕ) (here next : Bool) (s : StartHalfedge) (e : ℕ) → e ∈ xs → StartOf xs s → StartOf xs (next_start here next s e)
unfolding next_start missing_start set_start
start_of xs false next s e m k = k
start_of xs true true NoneMissing e m k = tt
start_of xs true false NoneMissing e m k = m
start_of xs true true SomeMissing e m k = tt
start_of xs true false SomeMissing e m k = m
start_of xs true next (StartAt a) e m k = k

either_true : (a b : Bool) → (a || b) ≡ true → (a ≡ true) ⊎ (b ≡ true)
either_true true b q = inl refl
either_true false b q = inr q

-- ---- a loop that writes each flag of a missing normal anew

module _ (H : Halfedges) (P : List Float) (n : ℕ) where
  module _ {S : Type 0} (step : S → ℕ → S) (tangents : S → List Float) (writes : (s : S) (x : ℕ) → Writes (tangents s) (tangents (step s x)) x)
      (makes : (s : S) (x : ℕ) → x * 4 + 4 ≤ length (tangents s) → MadeOrMissing H P (tangents s) x → Made H P (tangents (step s x)) x) where
    loop_length : (xs : List ℕ) (s : S) → length (tangents s) ≡ n * 4 → length (tangents (foldl step s xs)) ≡ n * 4
    loop_length xs s = list_keeps step (λ t. length (tangents t) ≡ n * 4) xs (λ t x m i. (writes t x).same_length ∙ i) s

    module _ (d : ℕ) (b : d < n) where
      -- at halfedge d
      abbrev MadeAt : S → Type 0
      MadeAt s = (length (tangents s) ≡ n * 4) × Made H P (tangents s) d

      abbrev MadeOrMissingAt : S → Type 0
      MadeOrMissingAt s = (length (tangents s) ≡ n * 4) × MadeOrMissing H P (tangents s) d

      made_keeps : (s : S) (x : ℕ) → MadeAt s → MadeAt (step s x)
      made_keeps s x (l, m) = ((writes s x).same_length ∙ l, go (ℕ_discrete d x))
        where
          go : Dec (d ≡ x) → Made H P (tangents (step s x)) d
          go (yes q) = rw q (makes s x (omega arith) (inl (rw q at m)))
          go (no q) = rw ((writes s x).others d q) m

      missing_keeps : (s : S) (x : ℕ) → MadeOrMissingAt s → MadeOrMissingAt (step s x)
      missing_keeps s x (l, inl m) = let k = made_keeps s x (l, m) in (k.0, inl k.1)
      missing_keeps s x (l, inr m) = ((writes s x).same_length ∙ l, go (ℕ_discrete d x))
        where
          go : Dec (d ≡ x) → MadeOrMissing H P (tangents (step s x)) d
          go (yes q) = inl (rw q (makes s x (omega arith) (inr (rw q at m))))
          go (no q) = inr ((writes s x).others d q ∙ m)

      pub loop_made : (xs : List ℕ) (s : S) → length (tangents s) ≡ n * 4 → Made H P (tangents s) d ⊎ ((weight_at (tangents s) d ≡ missing_normal_weight) × (d ∈ xs)) → Made H P (tangents (foldl step s xs)) d
      loop_made xs s l (inl m) = (list_keeps step MadeAt xs (λ t x k i. made_keeps t x i) s (l, m)).1
      loop_made xs s l (inr m) =
          (list_gains step MadeOrMissingAt MadeAt d xs m.1 (λ t x k i. missing_keeps t x i) (λ t x k i. made_keeps t x i)
          (λ t i. ((writes t d).same_length ∙ i.0, makes t d (omega (arith, i.0)) i.1)) s (l, inr m.0)).1

-- ---- the vertex cycle of halfedge h

module _ {H : Halfedges} {n p : ℕ} (S : Sound H n p) (h : ℕ) (h_below : h < n) where
  abbrev cycle : List ℕ
  cycle = vertex_cycle H n h

  in_below : (x : ℕ) → x ∈ cycle → x < n
  in_below x m = cycle_below (next_permutes S) h h_below x m

  next_in : (x : ℕ) → x ∈ cycle → next_around H x ∈ cycle
  next_in x m =
      let r = cycle_reached (next_permutes S) h h_below x m in
      cycle_all (next_permutes S) h h_below (next_around H x) (suc r.0, iter_suc (next_around H) r.0 h ∙ ap (next_around H) r.1)

  -- it is the cycle of each of its halfedges, and has the same ones the other way round
  same_cycle : (x y : ℕ) → x ∈ cycle → y ∈ cycle → y ∈ vertex_cycle H n x
  same_cycle x y mx my =
      let bx = in_below x mx in
      let own = cycle_all (next_permutes S) x bx x (0, iter_zero (next_around H) x) in
      rw (← cycles_equal (next_permutes S) h x x h_below bx mx own y) my

  same_back : (x y : ℕ) → x ∈ cycle → y ∈ cycle → y ∈ vertex_cycle_back H n x
  same_back x y mx my = rw (cycle_ways S x y (in_below x mx)) (same_cycle x y mx my)

  module _ (P A : List Float) (normal : ℕ → Vec3) (in_quad : ℕ → Bool) where
    abbrev is_zero_at : ℕ → Bool
    is_zero_at x = is_zero (normal x)

    -- where the next of a missing normal is always missing, and one is, all are
    along : ((x : ℕ) → x ∈ cycle → is_zero_at x ≡ true → is_zero_at (next_around H x) ≡ true) → (i y : ℕ) → y ∈ cycle → is_zero_at y ≡ true → is_zero_at (iter (next_around H) i y) ≡ true
    unfolding iter
    along f zero y m z = z
    along f (suc i) y m z = along f i (next_around H y) (next_in y m) (f y m z)

    all_zero : ((x : ℕ) → x ∈ cycle → is_zero_at x ≡ true → is_zero_at (next_around H x) ≡ true) → (y : ℕ) → y ∈ cycle → is_zero_at y ≡ true → (x : ℕ) → x ∈ cycle → is_zero_at x ≡ true
    all_zero f y my z x mx =
        let r = cycle_reached (next_permutes S) y (in_below y my) x (same_cycle y x my mx) in
        subst (λ (u : ℕ). is_zero_at u ≡ true) r.1 (along f r.0 y my z)

    -- ---- the first loop, from the tangents and flags m

    module _ (m : Tangents) where
      abbrev step : Walk → ℕ → Walk
      step = normal_step H P A normal in_quad

      abbrev before : Walk
      before = walk_of m.tangents m.fixed start_state

      abbrev after : Walk
      after = foldl step before cycle

      abbrev start_after : StartHalfedge
      start_after = after.state.start_halfedge

      -- a missing normal is noticed
      some_missing_lem : (y : ℕ) → y ∈ cycle → is_zero_at y ≡ true → some_missing start_after ≡ true
      some_missing_lem y my z =
          list_gains step (λ k. Unit {0}) (λ k. some_missing k.state.start_halfedge ≡ true) y cycle my (λ k x l i. tt)
          (λ k x l i. rw (normal_start H P A normal in_quad k x) (some_kept _ _ _ x i))
          (λ k i. rw (normal_start H P A normal in_quad k y, z) (some_set _ _ y)) before tt

      -- and a start is found where the next one is there
      start_found : (y : ℕ) → y ∈ cycle → is_zero_at y ≡ true → is_zero_at (next_around H y) ≡ false → is_start start_after ≡ true
      start_found y my z w =
          list_gains step (λ k. Unit {0}) (λ k. is_start k.state.start_halfedge ≡ true) y cycle my (λ k x l i. tt)
          (λ k x l i. rw (normal_start H P A normal in_quad k x) (start_kept _ _ _ x i))
          (λ k i. rw (normal_start H P A normal in_quad k y, z, w) (start_set _ y)) before tt

      -- it is a halfedge of the cycle
      start_in : StartOf cycle start_after
      start_in =
          list_keeps step (λ k. StartOf cycle k.state.start_halfedge) cycle
          (λ k x l i. rw (normal_start H P A normal in_quad k x) (start_of cycle _ _ _ x l i)) before tt

      -- where all normals are missing there is no last one
      last_zero : ((x : ℕ) → x ∈ cycle → is_zero_at x ≡ true) → after.state.last_normal ≡ zero_normal
      last_zero f =
          list_keeps step (λ k. k.state.last_normal ≡ zero_normal) cycle
          (λ k x l i. normal_last H P A normal in_quad k x ∙ rw (f x l) (last_kept _ _ _) ∙ i) before refl

      module _ (whole : length m.tangents ≡ n * 4) where
        after_length : length after.tangents ≡ n * 4
        after_length = list_keeps step (λ k. length k.tangents ≡ n * 4) cycle (λ k x l i. (normal_writes H P A normal in_quad k x).same_length ∙ i) before whole

        vert_normal_length : (normal : Vec3) → length (vert_normal_walk H P A n normal after.tangents h) ≡ n * 4
        unfolding vert_normal_walk
        vert_normal_length normal =
            loop_length H P n (vert_normal_step H P A normal) (λ T. T) (vert_normal_writes H P A normal) (vert_normal_made H P A normal) cycle after.tangents after_length

        fill_missing_length : (last : Vec3) (start : StartHalfedge) → length (fill_missing H P A normal n last after.tangents start) ≡ n * 4
        unfolding fill_missing fill_walk
        fill_missing_length last NoneMissing = after_length
        fill_missing_length last SomeMissing = after_length
        fill_missing_length last (StartAt start) =
            loop_length H P n (fill_step H P A normal last) (λ k. k.tangents) (fill_writes H P A normal last) (fill_made H P A normal last) (vertex_cycle_back H n start)
            (fill_of after.tangents (normal (next_around H start))) after_length

        finish_length : (N : List Float) (v : ℕ) → length (finish_vert H P N A normal n after v h).tangents ≡ n * 4
        unfolding finish_vert
        finish_length N v =
            cond_both (some_missing start_after && is_zero after.state.last_normal) _ _ (λ (k : Tangents). length k.tangents ≡ n * 4)
            (λ q. vert_normal_length (point_at N v))
            (λ q. align_length H P _ after.state.face_edges ∙ fill_missing_length after.state.last_normal start_after)

        -- ---- at halfedge d, whose weight was made before

        module _ (d : ℕ) (b : d < n) (made : Made H P m.tangents d) where
          -- the flag of a missing normal is left only in the cycle, and where a normal is missing
          abbrev MissingInCycle : List Float → Type 0
          MissingInCycle T = Made H P T d ⊎ ((weight_at T d ≡ missing_normal_weight) × (d ∈ cycle) × (is_missing H normal d ≡ true))

          abbrev WalkInvariant : Walk → Type 0
          WalkInvariant k = (length k.tangents ≡ n * 4) × MissingInCycle k.tangents

          flagged_in_cycle : (T : List Float) → d ∈ cycle → Flagged H P A normal in_quad T d → MissingInCycle T
          flagged_in_cycle T l (inl k) = inl k
          flagged_in_cycle T l (inr k) = inr (k.0, l, k.1)

          step_keeps : (k : Walk) (x : ℕ) → x ∈ cycle → WalkInvariant k → WalkInvariant (step k x)
          step_keeps k x l (w, i) = ((normal_writes H P A normal in_quad k x).same_length ∙ w, go (ℕ_discrete d x))
            where
              go : Dec (d ≡ x) → MissingInCycle (step k x).tangents
              go (yes q) = flagged_in_cycle (step k x).tangents (rw q l) (rw q (normal_flagged H P A normal in_quad k x (omega arith)))
              go (no q) = rw ((normal_writes H P A normal in_quad k x).others d q) i

          after_made : MissingInCycle after.tangents
          after_made = (list_keeps step WalkInvariant cycle step_keeps before (whole, inl made)).1

          -- one of the two normals that `is_missing` asks about
          missing_one : d ∈ cycle → is_missing H normal d ≡ true → (y : ℕ) × (y ∈ cycle) × (is_zero_at y ≡ true)
          unfolding is_missing
          missing_one l q = go (either_true (is_zero_at d) (is_zero_at (next_around H d)) q)
            where
              go : (is_zero_at d ≡ true) ⊎ (is_zero_at (next_around H d) ≡ true) → (y : ℕ) × (y ∈ cycle) × (is_zero_at y ≡ true)
              go (inl z) = (d, l, z)
              go (inr z) = (next_around H d, next_in d l, z)

          abbrev last_after : Vec3
          last_after = after.state.last_normal

          -- all normals are missing
          vert_normal_all : (normal : Vec3) → Made H P (vert_normal_walk H P A n normal after.tangents h) d
          unfolding vert_normal_walk
          vert_normal_all normal =
              loop_made H P n (vert_normal_step H P A normal) (λ T. T) (vert_normal_writes H P A normal) (vert_normal_made H P A normal) d b cycle after.tangents after_length (go after_made)
            where
              go : MissingInCycle after.tangents → Made H P after.tangents d ⊎ ((weight_at after.tangents d ≡ missing_normal_weight) × (d ∈ cycle))
              go (inl k) = inl k
              go (inr k) = inr (k.0, k.1)

          -- a start was found
          fill_all : (start : ℕ) → start ∈ cycle → Made H P (fill_walk H P A normal n last_after after.tangents start) d
          unfolding fill_walk
          fill_all start l =
              loop_made H P n (fill_step H P A normal last_after) (λ k. k.tangents) (fill_writes H P A normal last_after) (fill_made H P A normal last_after) d b (vertex_cycle_back H n start)
              (fill_of after.tangents (normal (next_around H start))) after_length (go after_made)
            where
              go : MissingInCycle after.tangents → Made H P after.tangents d ⊎ ((weight_at after.tangents d ≡ missing_normal_weight) × (d ∈ vertex_cycle_back H n start))
              go (inl k) = inl k
              go (inr k) = inr (k.0, same_back start d l k.1)

          -- No start was found, and not all normals are missing: none is. For if one is, the next one is too, and so on round the cycle.
          no_start : is_start start_after ≡ false → (some_missing start_after && is_zero last_after) ≡ false → Made H P after.tangents d
          no_start s c = go after_made
            where
              next_missing : (x : ℕ) → x ∈ cycle → is_zero_at x ≡ true → is_zero_at (next_around H x) ≡ true
              next_missing x l z = by (is_zero_at (next_around H x)) refl
                where
                  by : (v : Bool) → is_zero_at (next_around H x) ≡ v → is_zero_at (next_around H x) ≡ true
                  by true e = e
                  by false e = absurd (true≢false (sym (start_found x l z e) ∙ s))

              go : MissingInCycle after.tangents → Made H P after.tangents d
              go (inl k) = k
              go (inr k) =
                  let y = missing_one k.1 k.2 in
                  let last = last_zero (all_zero next_missing y.0 y.1 y.2) in
                  absurd (true≢false (sym zero_normal_lem ∙ ap is_zero (sym last) ∙ rw (some_missing_lem y.0 y.1 y.2) at c))

          fill_missing_lem : (start : StartHalfedge) → start_after ≡ start → (some_missing start_after && is_zero last_after) ≡ false → Made H P (fill_missing H P A normal n last_after after.tangents start) d
          unfolding fill_missing
          fill_missing_lem NoneMissing q c = no_start (ap is_start q) c
          fill_missing_lem SomeMissing q c = no_start (ap is_start q) c
          fill_missing_lem (StartAt start) q c = fill_all start (rw q at start_in)

          finish_made : (N : List Float) (v : ℕ) → Made H P (finish_vert H P N A normal n after v h).tangents d
          unfolding finish_vert
          finish_made N v =
              cond_both (some_missing start_after && is_zero last_after) _ _ (λ (k : Tangents). Made H P k.tangents d)
              (λ q. vert_normal_all (point_at N v))
              (λ q. align_keeps H P (tangents_of (fill_missing H P A normal n last_after after.tangents start_after) after.fixed) after.state.face_edges d
              (omega (arith, fill_missing_length last_after start_after)) (fill_missing_lem start_after refl q))

-- ---- THE POINT

-- the tangents are whole, and each weight is made
pub record AllMade (H : Halfedges) (P : List Float) (n : ℕ) (m : Tangents) : Type 0 where
  pub whole : length m.tangents ≡ n * 4
  pub made : (d : ℕ) → d < n → Made H P m.tangents d

module _ {H : Halfedges} {n p : ℕ} (S : Sound H n p) (P N A : List Float) (normal : ℕ → Vec3) (in_quad : ℕ → Bool) where
  pub vert_keeps : (m : Tangents) (v : ℕ) → AllMade H P n m → AllMade H P n (normals_vert H P N A normal in_quad n m v)
  unfolding normals_vert normal_walk
  vert_keeps m v a =
      let e = vert_halfedge H n v in
      cond_both (ltb e n) _ _ (AllMade H P n)
      (λ q. record {
        whole = finish_length S e (ltb-true e n q) P A normal in_quad m a.whole N v;
        made = λ d l. finish_made S e (ltb-true e n q) P A normal in_quad m a.whole d l (a.made d l) N v;
      })
      (λ q. a)
