-- Walks by a map of numbers, step after step. Each goes by fuel, the most steps that it takes: the Rust's guards.
use Rattle.std.specs.Prelude.{ℕ, zero, suc, ◌≡◌, Bool, cond, List, [], ◌∷◌, eqb}

-- `step` taken i times from h
unfoldable pub iter : (ℕ → ℕ) → ℕ → ℕ → ℕ
iter step zero h = h
iter step (suc i) h = iter step i (step h)

-- The places that a walk from h steps onto, at most k. It ends with the first place at which `stop` is true.
unfoldable pub path : (ℕ → ℕ) → (ℕ → Bool) → ℕ → ℕ → List ℕ
path step stop zero h = []
path step stop (suc k) h = step h ∷ cond (stop (step h)) [] (path step stop k (step h))

-- the place where that walk ends
unfoldable pub walk_end : (ℕ → ℕ) → (ℕ → Bool) → ℕ → ℕ → ℕ
walk_end step stop zero h = h
walk_end step stop (suc k) h = cond (stop (step h)) (step h) (walk_end step stop k (step h))

-- c and the places after it, at most k, until the next would be s (`collect_vertex_cycle`, which has no guard)
unfoldable pub cycle_from : (ℕ → ℕ) → ℕ → ℕ → ℕ → List ℕ
cycle_from step zero s c = []
cycle_from step (suc k) s c = c ∷ cond (eqb (step c) s) [] (cycle_from step k s (step c))

-- the cycle of h, under a map of the numbers below n
abbrev pub cycle_of : (ℕ → ℕ) → ℕ → ℕ → List ℕ
cycle_of step n h = cycle_from step n h h

-- x is reached from h
abbrev pub Reaches : (ℕ → ℕ) → ℕ → ℕ → Type 0
Reaches step h x = (i : ℕ) × (iter step i h ≡ x)
