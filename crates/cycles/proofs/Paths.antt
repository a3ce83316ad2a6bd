-- Walks by any map: the places of a path and of a cycle by their number of steps, and what more fuel changes.
use mathlib.Core.Path.{◌≡◌, refl, sym, ap, ◌∙◌}
use mathlib.Core.Bool.{Bool, true, false, true≢false}
use mathlib.Core.List.{List, [], ◌∷◌}
use Prim.Native.Nat.{ℕ, zero, suc, ◌+◌, ◌≤◌, ◌<◌, zero-le, suc-le-suc}
use native.Mathlib.Nat.{not-suc-le-zero, le_of_suc-le-suc, zero-add, suc-add}
use native.Mathlib.Omega.{arith}
use lib.Dec.{eqb}
use lib.ListN.{length, get_or}
use lib.Seq.{ext_get_or}
use Rattle.cycles.specs.Walk.{iter, path, walk_end, cycle_from}

-- the test of a walk that ends where it comes back to s
abbrev pub is_at : ℕ → ℕ → Bool
is_at s y = eqb y s

-- how many steps a walk from h takes
abbrev pub steps_left : (ℕ → ℕ) → (ℕ → Bool) → ℕ → ℕ → ℕ
steps_left step stop k h = length (path step stop k h)

module _ (step : ℕ → ℕ) where
  pub iter_zero : (h : ℕ) → iter step 0 h ≡ h
  unfolding iter
  iter_zero h = refl

  pub iter_suc : (i h : ℕ) → iter step (suc i) h ≡ step (iter step i h)
  unfolding iter
  iter_suc zero h = refl
  iter_suc (suc i) h = iter_suc i (step h)

  pub iter_add : (a b h : ℕ) → iter step (a + b) h ≡ iter step b (iter step a h)
  unfolding iter
  iter_add zero b h = rw (zero-add b)
  iter_add (suc a) b h = rw (suc-add a b) (iter_add a b (step h))

  module _ (stop : ℕ → Bool) where
    -- one step of a walk
    pub path_on : (k h : ℕ) → stop (step h) ≡ false → path step stop (suc k) h ≡ step h ∷ path step stop k (step h)
    unfolding path
    path_on k h e = rw e

    pub path_last : (k h : ℕ) → stop (step h) ≡ true → path step stop (suc k) h ≡ step h ∷ []
    unfolding path
    path_last k h e = rw e

    pub end_on : (k h : ℕ) → stop (step h) ≡ false → walk_end step stop (suc k) h ≡ walk_end step stop k (step h)
    unfolding walk_end
    end_on k h e = rw e

    pub end_last : (k h : ℕ) → stop (step h) ≡ true → walk_end step stop (suc k) h ≡ step h
    unfolding walk_end
    end_last k h e = rw e

    -- the place i of a path
    pub path_at : (k h i : ℕ) → i < length (path step stop k h) → get_or (path step stop k h) i 0 ≡ iter step (suc i) h
    unfolding iter path
    path_at zero h i l = absurd (not-suc-le-zero l)
    path_at (suc k) h zero l = refl
    path_at (suc k) h (suc i) l = go (stop (step h)) refl (path_at k (step h) i)
      where
        go : (b : Bool) → stop (step h) ≡ b → (i < length (path step stop k (step h)) → get_or (path step stop k (step h)) i 0 ≡ iter step (suc i) (step h))
            → get_or (path step stop (suc k) h) (suc i) 0 ≡ iter step (suc (suc i)) h
        go true e ih = absurd (not-suc-le-zero (le_of_suc-le-suc (rw e at l)))
        go false e ih = rw e (ih (le_of_suc-le-suc (rw e at l)))

    -- where a walk ends, by its number of steps
    pub end_iter : (k h : ℕ) → walk_end step stop k h ≡ iter step (length (path step stop k h)) h
    unfolding iter path walk_end
    end_iter zero h = refl
    end_iter (suc k) h = go (stop (step h)) refl (end_iter k (step h))
      where
        go : (b : Bool) → stop (step h) ≡ b → walk_end step stop k (step h) ≡ iter step (length (path step stop k (step h))) (step h)
            → walk_end step stop (suc k) h ≡ iter step (length (path step stop (suc k) h)) h
        go true e ih = rw e
        go false e ih = rw e ih

    -- no place but the last is a stop
    pub path_free : (k h i : ℕ) → suc i < length (path step stop k h) → stop (iter step (suc i) h) ≡ false
    unfolding iter path
    path_free zero h i l = absurd (not-suc-le-zero l)
    path_free (suc k) h i l = go i (stop (step h)) refl (path_free k (step h)) l
      where
        go : (i : ℕ) (b : Bool) → stop (step h) ≡ b → ((i : ℕ) → suc i < length (path step stop k (step h)) → stop (iter step (suc i) (step h)) ≡ false)
            → suc i < length (path step stop (suc k) h) → stop (iter step (suc i) h) ≡ false
        go i true e ih l = absurd (not-suc-le-zero (le_of_suc-le-suc (rw e at l)))
        go zero false e ih l = e
        go (suc i) false e ih l = ih i (le_of_suc-le-suc (rw e at l))

    -- a walk that has not come to a stop takes one step more with more fuel
    pub path_longer : (k h : ℕ) → stop (walk_end step stop k h) ≡ false → length (path step stop (suc k) h) ≡ suc k
    unfolding path walk_end
    path_longer zero h s = go (stop (step h)) refl
      where
        go : (b : Bool) → stop (step h) ≡ b → length (path step stop 1 h) ≡ 1
        go true e = rw e
        go false e = rw e
    path_longer (suc k) h s = go (stop (step h)) refl (path_longer k (step h))
      where
        go : (b : Bool) → stop (step h) ≡ b → (stop (walk_end step stop k (step h)) ≡ false → length (path step stop (suc k) (step h)) ≡ suc k)
            → length (path step stop (suc (suc k)) h) ≡ suc (suc k)
        go true e ih = absurd (true≢false (sym e ∙ ap stop (sym (end_last k h e)) ∙ s))
        go false e ih = ap length (path_on (suc k) h e) ∙ ap suc (ih (ap stop (sym (end_on k h e)) ∙ s))

    -- a walk takes a step
    pub path_some : (k h : ℕ) → 1 ≤ k → 1 ≤ length (path step stop k h)
    unfolding path
    path_some zero h l = absurd (not-suc-le-zero l)
    path_some (suc k) h l = suc-le-suc zero-le

    -- a walk that ends at a stop: more fuel changes nothing
    fuel_left : (k h : ℕ) → stop (step h) ≡ false → stop (walk_end step stop (suc k) h) ≡ true → 1 ≤ k
    unfolding walk_end
    fuel_left zero h e s = absurd (true≢false (sym s ∙ rw e e))
    fuel_left (suc k) h e s = suc-le-suc zero-le

    pub path_more : (k m h : ℕ) → 1 ≤ k → k ≤ m → stop (walk_end step stop k h) ≡ true → path step stop m h ≡ path step stop k h
    unfolding path
    path_more zero m h p l s = absurd (not-suc-le-zero p)
    path_more (suc k) zero h p l s = absurd (not-suc-le-zero l)
    path_more (suc k) (suc m) h p l s = go (stop (step h)) refl (path_more k m (step h))
      where
        go : (b : Bool) → stop (step h) ≡ b → (1 ≤ k → k ≤ m → stop (walk_end step stop k (step h)) ≡ true → path step stop m (step h) ≡ path step stop k (step h))
            → path step stop (suc m) h ≡ path step stop (suc k) h
        go true e ih = rw e
        go false e ih = rw e (ap (λ (l : List ℕ). step h ∷ l) (ih (fuel_left k h e s) (le_of_suc-le-suc l) (ap stop (sym (end_on k h e)) ∙ s)))

    pub end_more : (k m h : ℕ) → 1 ≤ k → k ≤ m → stop (walk_end step stop k h) ≡ true → walk_end step stop m h ≡ walk_end step stop k h
    end_more k m h p l s =
        end_iter m h ∙ ap (λ (w : List ℕ). iter step (length w) h) (path_more k m h p l s) ∙ sym (end_iter k h)

    -- with fuel to spare a walk goes on with the fuel that it had
    module _ (k h : ℕ) (p : 1 ≤ k) where
      pub path_next : stop (step h) ≡ false → stop (walk_end step stop k h) ≡ true → path step stop k h ≡ step h ∷ path step stop k (step h)
      path_next e s = go k p s
        where
          go : (k : ℕ) → 1 ≤ k → stop (walk_end step stop k h) ≡ true → path step stop k h ≡ step h ∷ path step stop k (step h)
          go zero p s = absurd (not-suc-le-zero p)
          go (suc m) p s =
              path_on m h e
              ∙ ap (λ (l : List ℕ). step h ∷ l) (sym (path_more m (suc m) (step h) (fuel_left m h e s) (omega arith) (ap stop (sym (end_on m h e)) ∙ s)))

      pub end_next : stop (step h) ≡ false → stop (walk_end step stop k h) ≡ true → walk_end step stop k h ≡ walk_end step stop k (step h)
      end_next e s = go k p s
        where
          go : (k : ℕ) → 1 ≤ k → stop (walk_end step stop k h) ≡ true → walk_end step stop k h ≡ walk_end step stop k (step h)
          go zero p s = absurd (not-suc-le-zero p)
          go (suc m) p s = end_on m h e ∙ sym (end_more m (suc m) (step h) (fuel_left m h e s) (omega arith) (ap stop (sym (end_on m h e)) ∙ s))

  -- ---- cycles: the same walk, with the place that it leaves instead of the one that it steps onto

  pub cycle_on : (k s c : ℕ) → eqb (step c) s ≡ false → cycle_from step (suc k) s c ≡ c ∷ cycle_from step k s (step c)
  unfolding cycle_from
  cycle_on k s c e = rw e

  pub cycle_last : (k s c : ℕ) → eqb (step c) s ≡ true → cycle_from step (suc k) s c ≡ c ∷ []
  unfolding cycle_from
  cycle_last k s c e = rw e

  pub cycle_length : (k s c : ℕ) → length (cycle_from step k s c) ≡ length (path step (is_at s) k c)
  unfolding cycle_from path
  cycle_length zero s c = refl
  cycle_length (suc k) s c = go (eqb (step c) s) refl (cycle_length k s (step c))
    where
      go : (b : Bool) → eqb (step c) s ≡ b → length (cycle_from step k s (step c)) ≡ length (path step (is_at s) k (step c))
          → length (cycle_from step (suc k) s c) ≡ length (path step (is_at s) (suc k) c)
      go true e ih = rw e
      go false e ih = rw e (ap suc ih)

  pub cycle_at : (k s c i : ℕ) → i < length (cycle_from step k s c) → get_or (cycle_from step k s c) i 0 ≡ iter step i c
  unfolding iter cycle_from
  cycle_at zero s c i l = absurd (not-suc-le-zero l)
  cycle_at (suc k) s c zero l = refl
  cycle_at (suc k) s c (suc i) l = go (eqb (step c) s) refl (cycle_at k s (step c) i)
    where
      go : (b : Bool) → eqb (step c) s ≡ b → (i < length (cycle_from step k s (step c)) → get_or (cycle_from step k s (step c)) i 0 ≡ iter step i (step c))
          → get_or (cycle_from step (suc k) s c) (suc i) 0 ≡ iter step (suc i) c
      go true e ih = absurd (not-suc-le-zero (le_of_suc-le-suc (rw e at l)))
      go false e ih = rw e (ih (le_of_suc-le-suc (rw e at l)))

  -- more fuel changes nothing, as for the path
  pub cycle_more : (k m s c : ℕ) → 1 ≤ k → k ≤ m → is_at s (walk_end step (is_at s) k c) ≡ true → cycle_from step m s c ≡ cycle_from step k s c
  cycle_more k m s c p l e =
      let same : length (cycle_from step m s c) ≡ length (cycle_from step k s c) =
      cycle_length m s c ∙ ap length (path_more (is_at s) k m c p l e) ∙ sym (cycle_length k s c) in
      ext_get_or 0 (cycle_from step m s c) (cycle_from step k s c) same
      (λ i b. cycle_at m s c i b ∙ sym (cycle_at k s c i (omega arith)))

  module _ (k s c : ℕ) (p : 1 ≤ k) where
    pub cycle_next : eqb (step c) s ≡ false → is_at s (walk_end step (is_at s) k c) ≡ true → cycle_from step k s c ≡ c ∷ cycle_from step k s (step c)
    cycle_next e t = go k p t
      where
        go : (k : ℕ) → 1 ≤ k → is_at s (walk_end step (is_at s) k c) ≡ true → cycle_from step k s c ≡ c ∷ cycle_from step k s (step c)
        go zero p t = absurd (not-suc-le-zero p)
        go (suc m) p t =
            cycle_on m s c e
            ∙ ap (λ (l : List ℕ). c ∷ l)
            (sym (cycle_more m (suc m) s (step c) (fuel_left (is_at s) m c e t) (omega arith) (ap (is_at s) (sym (end_on (is_at s) m c e)) ∙ t)))

    pub cycle_final : eqb (step c) s ≡ true → cycle_from step k s c ≡ c ∷ []
    cycle_final e = go k p
      where
        go : (k : ℕ) → 1 ≤ k → cycle_from step k s c ≡ c ∷ []
        go zero p = absurd (not-suc-le-zero p)
        go (suc m) p = cycle_last m s c e
