-- What is claimed of a map that takes the numbers below n one to one to themselves: what its cycles are, and that no guard ends its walks.
use Rattle.std.specs.Prelude.{ℕ, ◌≤◌, ◌<◌, ◌≡◌, Bool, true, length, get_or}
use Rattle.cycles.specs.Count.{count, ◌∈◌, Exactly}
use Rattle.cycles.specs.Walk.{iter, path, walk_end, cycle_from, cycle_of, Reaches}

pub record Permutes (step : ℕ → ℕ) (n : ℕ) : Type 0 where
  pub below : (h : ℕ) → h < n → step h < n
  pub injective : (a b : ℕ) → a < n → b < n → step a ≡ step b → a ≡ b

pub record Orbits (step : ℕ → ℕ) (n : ℕ) : Type 0 where
  pub permutes : Permutes step n
  -- the cycle of h: the walk comes back in at most n steps, its places in order, and more fuel changes nothing
  pub cycle_back : (h : ℕ) → h < n → iter step (length (cycle_of step n h)) h ≡ h
  pub cycle_within : (h : ℕ) → h < n → length (cycle_of step n h) ≤ n
  pub cycle_at : (h i : ℕ) → i < length (cycle_of step n h) → get_or (cycle_of step n h) i 0 ≡ iter step i h
  pub cycle_fuel : (k h : ℕ) → n ≤ k → h < n → cycle_from step k h h ≡ cycle_of step n h
  -- it holds what is reached from h, each once
  pub cycle_reached : (h x : ℕ) → h < n → x ∈ cycle_of step n h → Reaches step h x
  pub cycle_all : (h x : ℕ) → h < n → Reaches step h x → x ∈ cycle_of step n h
  pub cycle_once : (h x : ℕ) → h < n → count x (cycle_of step n h) ≤ 1
  pub cycle_size : (h : ℕ) → h < n → Exactly (Reaches step h) n (length (cycle_of step n h))
  -- two cycles that have a place in common have all in common
  pub cycles_equal : (a b x : ℕ) → a < n → b < n → x ∈ cycle_of step n a → x ∈ cycle_of step n b
      → (y : ℕ) → count y (cycle_of step n a) ≡ count y (cycle_of step n b)
  -- A walk from a stop ends at a stop, in at most n steps, and is the same with any fuel from n on: the Rust's guard, which lets n + 1 steps pass, never
  -- ends it.
  pub walk_stops : (stop : ℕ → Bool) (k s : ℕ) → n ≤ k → s < n → stop s ≡ true → stop (walk_end step stop k s) ≡ true
  pub walk_within : (stop : ℕ → Bool) (k s : ℕ) → s < n → stop s ≡ true → length (path step stop k s) ≤ n
  pub walk_fuel : (stop : ℕ → Bool) (k s : ℕ) → n ≤ k → s < n → stop s ≡ true → path step stop k s ≡ path step stop n s
  pub end_fuel : (stop : ℕ → Bool) (k s : ℕ) → n ≤ k → s < n → stop s ≡ true → walk_end step stop k s ≡ walk_end step stop n s
