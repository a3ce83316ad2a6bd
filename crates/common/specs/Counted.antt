-- A fold that counts on its way.
use Rattle.std.specs.Prelude.{ℕ, ◌+◌}

-- a state, and a count beside it
pub record Counted (S : Type 0) : Type 0 where
  pub state : S
  pub count : ℕ

abbrev pub counted : {S : Type 0} → S → ℕ → Counted S
counted s k = record { state = s; count = k }

-- the body `step` of a fold, which counts what `more` says of the state that it finds
unfoldable pub count_step : {S : Type 0} → (S → ℕ → S) → (S → ℕ → ℕ) → Counted S → ℕ → Counted S
count_step step more m x = counted (step m.state x) (m.count + more m.state x)
