-- The orbits of a map that takes the numbers below n one to one to themselves, and its walks from stop to stop. Nothing of meshes is in it.
use mathlib.Core.Path.{◌≡◌, refl, sym, ap, ◌∙◌, subst}
use mathlib.Core.Bool.{Bool, true, false, true≢false}
use mathlib.Core.Logic.{◌≢◌, ◌⊎◌, inl, inr}
use Prim.Native.Nat.{ℕ, zero, suc, ◌+◌, ◌-◌, ◌≤◌, ◌<◌, zero-le, suc-le-suc}
use native.Mathlib.Nat.{le_refl, le_antisymm, not-suc-le-zero}
use native.Mathlib.Decide.{dec_lt, dec_le}
use native.Mathlib.Omega.{arith}
use lib.ListN.{length, get_or}
use borrow.Author.Tests.{eqb-true, eqb-false, eq-eqb}
use Rattle.common.proofs.Sums.{sum_le_n}
use Rattle.cycles.specs.Count.{count, ◌∈◌, Exactly}
use Rattle.cycles.specs.Walk.{iter, path, walk_end, cycle_from, cycle_of, Reaches}
use Rattle.cycles.specs.Orbits.{Permutes, Orbits}
use Rattle.cycles.proofs.Count.{count_at, at_count, count_once, length_count, Below, exactly, zero_or_more, at_most_one}
use Rattle.cycles.proofs.Paths.{is_at, steps_left, iter_zero, iter_suc, iter_add, path_at, path_free, path_some, path_longer, path_more, end_iter, end_more, cycle_length, cycle_at, cycle_more}

module _ {step : ℕ → ℕ} {n : ℕ} (P : Permutes step n) where
  pub iter_below : (i h : ℕ) → h < n → iter step i h < n
  unfolding iter
  iter_below zero h l = l
  iter_below (suc i) h l = iter_below i (step h) (P.below h l)

  pub iter_injective : (i a b : ℕ) → a < n → b < n → iter step i a ≡ iter step i b → a ≡ b
  unfolding iter
  iter_injective zero a b la lb e = e
  iter_injective (suc i) a b la lb e =
      P.injective a b la lb (iter_injective i (step a) (step b) (P.below a la) (P.below b lb) e)

  -- two walks that meet, one of them longer: the longer one comes through the other's start
  pub iter_meet : (i d a b : ℕ) → a < n → b < n → iter step (d + i) a ≡ iter step i b → iter step d a ≡ b
  iter_meet i d a b la lb e = iter_injective i (iter step d a) b (iter_below d a la) lb (sym (iter_add step d i a) ∙ e)

  module _ (stop : ℕ → Bool) where
    -- ---- the walk from a stop s

    module _ (s : ℕ) (s_below : s < n) (s_stop : stop s ≡ true) where
      -- its places differ
      pub path_differ : (k i j : ℕ) → i < j → j < length (path step stop k s) → get_or (path step stop k s) i 0 ≢ get_or (path step stop k s) j 0
      path_differ k i j l m e =
          let p : iter step (suc j) s ≡ iter step (suc i) s = sym (path_at step stop k s j m) ∙ sym e ∙ path_at step stop k s i (omega arith) in
          let d : ℕ = j - suc i in
          let q : iter step (suc d) s ≡ s = iter_meet (suc i) (suc d) s s s_below s_below (ap (λ (t : ℕ). iter step t s) (omega arith) ∙ p) in
          true≢false (sym s_stop ∙ ap stop (sym q) ∙ path_free step stop k s d (omega arith))

      pub path_below : (k : ℕ) → Below n (path step stop k s)
      path_below k e m =
          let t = count_at e (path step stop k s) m in
          subst (λ (x : ℕ). x < n) (sym (path_at step stop k s t.0 t.1) ∙ t.2) (iter_below (suc t.0) s s_below)

      pub path_once : (k e : ℕ) → count e (path step stop k s) ≤ 1
      path_once k e = count_once e (path step stop k s) (path_differ k)

      -- so it comes to a stop in n steps or fewer
      pub path_within : (k : ℕ) → length (path step stop k s) ≤ n
      path_within k =
          subst (λ (t : ℕ). t ≤ n) (sym (length_count n (path step stop k s) (path_below k)))
          (sum_le_n n (λ e. count e (path step stop k s)) (λ i l. path_once k i))

      -- and fuel for n steps is enough
      pub path_ends : (k : ℕ) → n ≤ k → stop (walk_end step stop k s) ≡ true
      path_ends k l = go (stop (walk_end step stop k s)) refl
        where
          go : (b : Bool) → stop (walk_end step stop k s) ≡ b → stop (walk_end step stop k s) ≡ true
          go true e = e
          go false e = absurd (omega (arith, path_within (suc k), path_longer step stop k s e))

      fuel : (k : ℕ) → n ≤ k → 1 ≤ k
      fuel k l = omega arith

      pub path_fuel : (k : ℕ) → n ≤ k → path step stop k s ≡ path step stop n s
      path_fuel k l = path_more step stop n k s (fuel n (le_refl n)) l (path_ends n (le_refl n))

      pub end_fuel : (k : ℕ) → n ≤ k → walk_end step stop k s ≡ walk_end step stop n s
      end_fuel k l = end_more step stop n k s (fuel n (le_refl n)) l (path_ends n (le_refl n))

      -- ---- the same with the fuel of a guard that lets n + 1 steps pass

      pub steps_some : 1 ≤ steps_left step stop (suc n) s
      steps_some = path_some step stop (suc n) s (suc-le-suc zero-le)

      pub steps_stop : stop (iter step (steps_left step stop (suc n) s) s) ≡ true
      steps_stop = ap stop (sym (end_iter step stop (suc n) s)) ∙ path_ends (suc n) (omega arith)

      pub steps_free : (i : ℕ) → 1 ≤ i → i < steps_left step stop (suc n) s → stop (iter step i s) ≡ false
      steps_free zero p l = absurd (not-suc-le-zero p)
      steps_free (suc i) p l = path_free step stop (suc n) s i l

      -- a place of the path by its number of steps, and back
      pub path_index : (e : ℕ) → e ∈ path step stop (suc n) s → (i : ℕ) × (1 ≤ i) × (i ≤ steps_left step stop (suc n) s) × (iter step i s ≡ e)
      path_index e m =
          let t = count_at e (path step stop (suc n) s) m in
          (suc t.0, suc-le-suc zero-le, t.1, sym (path_at step stop (suc n) s t.0 t.1) ∙ t.2)

      pub index_path : (i : ℕ) → 1 ≤ i → i ≤ steps_left step stop (suc n) s → iter step i s ∈ path step stop (suc n) s
      index_path zero p l = absurd (not-suc-le-zero p)
      index_path (suc i) p l =
          subst (λ (x : ℕ). x ∈ path step stop (suc n) s) (path_at step stop (suc n) s i l) (at_count (path step stop (suc n) s) i l)

      -- where the path comes back to s, s is the only stop of its cycle
      pub sole_stop : s ∈ path step stop (suc n) s → (x : ℕ) → Reaches step s x → stop x ≡ true → x ≡ s
      sole_stop m x (j, q) h = let w = within j in go w.0 w.1 (sym q ∙ w.2)
        where
          back : iter step (steps_left step stop (suc n) s) s ≡ s
          back = let w = path_index s m in by w.0 w.1 w.2 w.3 (dec_lt w.0 (steps_left step stop (suc n) s))
            where
              by : (i : ℕ) → 1 ≤ i → i ≤ steps_left step stop (suc n) s → iter step i s ≡ s → Dec (i < steps_left step stop (suc n) s)
                  → iter step (steps_left step stop (suc n) s) s ≡ s
              by i p l e (yes b) = absurd (true≢false (sym s_stop ∙ ap stop (sym e) ∙ steps_free i p b))
              by i p l e (no b) = let z : steps_left step stop (suc n) s ≡ i = omega arith in rw z e

          within : (j : ℕ) → (i : ℕ) × (i < steps_left step stop (suc n) s) × (iter step j s ≡ iter step i s)
          within zero = (0, steps_some, refl)
          within (suc j) = let w = within j in next w.0 w.1 w.2 (dec_lt (suc w.0) (steps_left step stop (suc n) s))
            where
              next : (i : ℕ) → i < steps_left step stop (suc n) s → iter step j s ≡ iter step i s → Dec (suc i < steps_left step stop (suc n) s)
                  → (i : ℕ) × (i < steps_left step stop (suc n) s) × (iter step (suc j) s ≡ iter step i s)
              next i l e (yes m) = (suc i, m, iter_suc step j s ∙ ap step e ∙ sym (iter_suc step i s))
              next i l e (no m) =
                  let q : suc i ≡ steps_left step stop (suc n) s = omega arith in
                  (0, steps_some, iter_suc step j s ∙ ap step e ∙ sym (iter_suc step i s) ∙ ap (λ (k : ℕ). iter step k s) q ∙ back ∙ sym (iter_zero step s))

          go : (i : ℕ) → i < steps_left step stop (suc n) s → x ≡ iter step i s → x ≡ s
          go zero l e = e ∙ iter_zero step s
          go (suc i) l e = absurd (true≢false (sym h ∙ ap stop e ∙ steps_free (suc i) (suc-le-suc zero-le) l))

    -- ---- the walks from two stops have no place in common

    module _ (s : ℕ) (s_below : s < n) (s_stop : stop s ≡ true) (t : ℕ) (t_below : t < n) (t_stop : stop t ≡ true) where
      apart : (i j : ℕ) → i ≤ j → j ≤ steps_left step stop (suc n) t → 1 ≤ i → iter step j t ≡ iter step i s → t ≡ s
      apart i j l m p e = go (j - i) refl
        where
          go : (d : ℕ) → j - i ≡ d → t ≡ s
          go zero q = iter_injective i t s t_below s_below (ap (λ (k : ℕ). iter step k t) (omega arith) ∙ e)
          go (suc d) q =
              let r : iter step (suc d) t ≡ s = iter_meet i (suc d) t s t_below s_below (ap (λ (k : ℕ). iter step k t) (omega arith) ∙ e) in
              absurd (true≢false (sym s_stop ∙ ap stop (sym r) ∙ steps_free t t_below t_stop (suc d) (suc-le-suc zero-le) (omega arith)))

    pub path_apart : (s : ℕ) → s < n → stop s ≡ true → (t : ℕ) → t < n → stop t ≡ true → (e : ℕ)
        → e ∈ path step stop (suc n) s → e ∈ path step stop (suc n) t → s ≡ t
    path_apart s s_below s_stop t t_below t_stop e hs ht = go (dec_le a.0 b.0)
      where
        a : (i : ℕ) × (1 ≤ i) × (i ≤ steps_left step stop (suc n) s) × (iter step i s ≡ e)
        a = path_index s s_below s_stop e hs

        b : (i : ℕ) × (1 ≤ i) × (i ≤ steps_left step stop (suc n) t) × (iter step i t ≡ e)
        b = path_index t t_below t_stop e ht

        go : Dec (a.0 ≤ b.0) → s ≡ t
        go (yes l) = sym (apart s s_below s_stop t t_below t_stop a.0 b.0 l b.2 a.1 (b.3 ∙ sym a.3))
        go (no l) = apart t t_below t_stop s s_below s_stop b.0 a.0 (omega arith) a.2 b.1 (a.3 ∙ sym b.3)

  -- ---- cycles

  is_at_lem : (h : ℕ) → is_at h h ≡ true
  is_at_lem h = eq-eqb h h refl

  module _ (h : ℕ) (h_below : h < n) where
    cycle_steps : length (cycle_of step n h) ≡ steps_left step (is_at h) n h
    cycle_steps = cycle_length step n h h

    pub cycle_back : iter step (length (cycle_of step n h)) h ≡ h
    cycle_back =
        ap (λ (k : ℕ). iter step k h) cycle_steps ∙ sym (end_iter step (is_at h) n h)
        ∙ eqb-true _ h (path_ends (is_at h) h h_below (is_at_lem h) n (le_refl n))

    pub cycle_within : length (cycle_of step n h) ≤ n
    cycle_within = omega (arith, cycle_steps, path_within (is_at h) h h_below (is_at_lem h) n)

    pub cycle_some : 1 ≤ length (cycle_of step n h)
    cycle_some = omega (arith, cycle_steps, path_some step (is_at h) n h (omega arith))

    pub cycle_fuel : (k : ℕ) → n ≤ k → cycle_from step k h h ≡ cycle_of step n h
    cycle_fuel k l = cycle_more step n k h h (omega arith) l (path_ends (is_at h) h h_below (is_at_lem h) n (le_refl n))

    -- no step before the last comes back
    pub cycle_free : (i : ℕ) → suc i < length (cycle_of step n h) → iter step (suc i) h ≢ h
    cycle_free i l = eqb-false _ h (path_free step (is_at h) n h i (omega (arith, cycle_steps)))

    pub cycle_differ : (i j : ℕ) → i < j → j < length (cycle_of step n h) → get_or (cycle_of step n h) i 0 ≢ get_or (cycle_of step n h) j 0
    cycle_differ i j l m e =
        let d : ℕ = j - suc i in
        let p : iter step j h ≡ iter step i h = sym (cycle_at step n h h j m) ∙ sym e ∙ cycle_at step n h h i (omega arith) in
        cycle_free d (omega arith) (iter_meet i (suc d) h h h_below h_below (ap (λ (t : ℕ). iter step t h) (omega arith) ∙ p))

    pub cycle_once : (x : ℕ) → count x (cycle_of step n h) ≤ 1
    cycle_once x = count_once x (cycle_of step n h) cycle_differ

    -- any number of steps stays in the cycle
    pub cycle_index : (j : ℕ) → (i : ℕ) × (i < length (cycle_of step n h)) × (iter step i h ≡ iter step j h)
    cycle_index zero = (0, cycle_some, refl)
    cycle_index (suc j) = let w = cycle_index j in next w.0 w.1 w.2 (dec_lt (suc w.0) (length (cycle_of step n h)))
      where
        next : (i : ℕ) → i < length (cycle_of step n h) → iter step i h ≡ iter step j h → Dec (suc i < length (cycle_of step n h))
            → (i : ℕ) × (i < length (cycle_of step n h)) × (iter step i h ≡ iter step (suc j) h)
        next i l e (yes m) = (suc i, m, iter_suc step i h ∙ ap step e ∙ sym (iter_suc step j h))
        next i l e (no m) =
            let q : length (cycle_of step n h) ≡ suc i = omega arith in
            (0, cycle_some, iter_zero step h ∙ sym cycle_back ∙ ap (λ (k : ℕ). iter step k h) q ∙ iter_suc step i h ∙ ap step e ∙ sym (iter_suc step j h))

    pub cycle_reached : (x : ℕ) → x ∈ cycle_of step n h → Reaches step h x
    cycle_reached x m =
        let t = count_at x (cycle_of step n h) m in
        (t.0, sym (cycle_at step n h h t.0 t.1) ∙ t.2)

    pub cycle_all : (x : ℕ) → Reaches step h x → x ∈ cycle_of step n h
    cycle_all x (j, e) =
        let w = cycle_index j in
        subst (λ (y : ℕ). y ∈ cycle_of step n h) (cycle_at step n h h w.0 w.1 ∙ w.2 ∙ e) (at_count (cycle_of step n h) w.0 w.1)

    pub cycle_below : Below n (cycle_of step n h)
    cycle_below x m = let r = cycle_reached x m in subst (λ (y : ℕ). y < n) r.1 (iter_below r.0 h h_below)

    pub cycle_size : Exactly (Reaches step h) n (length (cycle_of step n h))
    cycle_size =
        subst (Exactly (Reaches step h) n) (sym (length_count n (cycle_of step n h) cycle_below))
        (exactly (Reaches step h) n (λ x. count x (cycle_of step n h)) (λ x l. by x (zero_or_more (count x (cycle_of step n h)))))
      where
        by : (x : ℕ) → (count x (cycle_of step n h) ≡ 0) ⊎ (x ∈ cycle_of step n h)
            → ((count x (cycle_of step n h) ≡ 1) × Reaches step h x) ⊎ ((count x (cycle_of step n h) ≡ 0) × ¬ Reaches step h x)
        by x (inl z) = inr (z, λ r. let m = cycle_all x r in omega arith)
        by x (inr m) = inl (le_antisymm (cycle_once x) m, cycle_reached x m)

    -- from any place of the cycle back to its start
    pub reaches_back : (x : ℕ) → Reaches step h x → Reaches step x h
    reaches_back x (j, e) =
        let w = cycle_index j in
        let s : ℕ = length (cycle_of step n h) in
        let q : w.0 + (s - w.0) ≡ s = omega (arith, w.1) in
        (s - w.0, ap (iter step (s - w.0)) (sym e ∙ sym w.2) ∙ sym (iter_add step w.0 (s - w.0) h) ∙ ap (λ (k : ℕ). iter step k h) q ∙ cycle_back)

  pub reaches_trans : (a b c : ℕ) → Reaches step a b → Reaches step b c → Reaches step a c
  reaches_trans a b c (i, e) (j, f) = (i + j, iter_add step i j a ∙ ap (iter step j) e ∙ f)

  -- two cycles that have a place in common have all in common
  pub cycles_equal : (a b x : ℕ) → a < n → b < n → x ∈ cycle_of step n a → x ∈ cycle_of step n b
      → (y : ℕ) → count y (cycle_of step n a) ≡ count y (cycle_of step n b)
  cycles_equal a b x la lb ma mb y =
      at_most_one _ _ (cycle_once a la y) (cycle_once b lb y) (over a b la lb b_a) (over b a lb la a_b)
    where
      a_b : Reaches step a b
      a_b = reaches_trans a x b (cycle_reached a la x ma) (reaches_back b lb x (cycle_reached b lb x mb))

      b_a : Reaches step b a
      b_a = reaches_back a la b a_b

      over : (c d : ℕ) (lc : c < n) (ld : d < n) → Reaches step d c → y ∈ cycle_of step n c → y ∈ cycle_of step n d
      over c d lc ld r m = cycle_all d ld y (reaches_trans d c y r (cycle_reached c lc y m))

  -- what is reached from a stop lies on the path of some stop
  pub stop_before : (stop : ℕ → Bool) (s : ℕ) → s < n → stop s ≡ true → (x : ℕ) → Reaches step s x
      → (t : ℕ) × (t < n) × (stop t ≡ true) × (x ∈ path step stop (suc n) t)
  stop_before stop s s_below s_stop x (j, e) =
      let c : ℕ = length (cycle_of step n s) in
      let m : ℕ = c + j - 1 in
      let w = by m in
      let q : suc m ≡ c + j = omega (arith, cycle_some s s_below) in
      let r : iter step (suc m) s ≡ x = ap (λ (k : ℕ). iter step k s) q ∙ iter_add step c j s ∙ ap (iter step j) (cycle_back s s_below) ∙ e in
      (w.0, w.1, w.2, subst (λ (x : ℕ). x ∈ path step stop (suc n) w.0) (w.6 ∙ r) (index_path stop w.0 w.1 w.2 w.3 w.4 w.5))
    where
      by : (m : ℕ) → (t : ℕ) × (t < n) × (stop t ≡ true) × (i : ℕ) × (1 ≤ i) × (i ≤ steps_left step stop (suc n) t) × (iter step i t ≡ iter step (suc m) s)
      by zero = (s, s_below, s_stop, 1, le_refl 1, steps_some stop s s_below s_stop, refl)
      by (suc m) = let w = by m in next w.0 w.1 w.2 w.3 w.5 w.6 (dec_lt w.3 (steps_left step stop (suc n) w.0))
        where
          next : (t : ℕ) → t < n → stop t ≡ true → (i : ℕ) → i ≤ steps_left step stop (suc n) t → iter step i t ≡ iter step (suc m) s
              → Dec (i < steps_left step stop (suc n) t)
              → (t : ℕ) × (t < n) × (stop t ≡ true) × (i : ℕ) × (1 ≤ i) × (i ≤ steps_left step stop (suc n) t) × (iter step i t ≡ iter step (suc (suc m)) s)
          next t t_below t_stop i l e (yes k) = (t, t_below, t_stop, suc i, suc-le-suc zero-le, k, iter_suc step i t ∙ ap step e ∙ sym (iter_suc step (suc m) s))
          next t t_below t_stop i l e (no k) =
              let q : i ≡ steps_left step stop (suc n) t = omega arith in
              let u : ℕ = iter step (suc m) s in
              let u_below : u < n = iter_below (suc m) s s_below in
              let u_stop : stop u ≡ true = ap stop (sym e) ∙ ap (λ (k : ℕ). stop (iter step k t)) q ∙ steps_stop stop t t_below t_stop in
              (u, u_below, u_stop, 1, le_refl 1, steps_some stop u u_below u_stop, iter_suc step 0 u ∙ ap step (iter_zero step u) ∙ sym (iter_suc step (suc m) s))

  -- ---- THE CLAIM

  pub orbits : Orbits step n
  orbits = record {
    permutes = P;
    cycle_back = cycle_back;
    cycle_within = cycle_within;
    cycle_at = λ h. cycle_at step n h h;
    cycle_fuel = λ k h l b. cycle_fuel h b k l;
    cycle_reached = λ h x b. cycle_reached h b x;
    cycle_all = λ h x b. cycle_all h b x;
    cycle_once = λ h x b. cycle_once h b x;
    cycle_size = cycle_size;
    cycles_equal = cycles_equal;
    walk_stops = λ stop k s l b e. path_ends stop s b e k l;
    walk_within = λ stop k s b e. path_within stop s b e k;
    walk_fuel = λ stop k s l b e. path_fuel stop s b e k l;
    end_fuel = λ stop k s l b e. end_fuel stop s b e k l;
  }

-- ---- a map that undoes the step reaches the same places

module _ {f g : ℕ → ℕ} {n : ℕ} (F : Permutes f n) (G : Permutes g n) (undo : (e : ℕ) → e < n → g (f e) ≡ e) where
  pub undo_iter : (j e : ℕ) → e < n → iter g j (iter f j e) ≡ e
  unfolding iter
  undo_iter zero e h = refl
  undo_iter (suc j) e h =
      ap (iter g (suc j)) (iter_suc f j e) ∙ ap (iter g j) (undo (iter f j e) (iter_below F j e h)) ∙ undo_iter j e h

  pub undo_reaches : (e x : ℕ) → e < n → Reaches f e x → Reaches g e x
  undo_reaches e x h (j, q) =
      reaches_back G x (subst (λ (y : ℕ). y < n) q (iter_below F j e h)) e (j, ap (iter g j) (sym q) ∙ undo_iter j e h)
