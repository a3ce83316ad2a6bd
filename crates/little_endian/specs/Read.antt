-- What a read into a buffer that failed on the way took.
use Rattle.std.specs.Prelude.{ℕ, List, ◌≤◌, length, take}
use Rattle.std.specs.Io.KnownBytes.{Consumes}
use Rattle.std.specs.declared.option.Option.{Option}

-- known bytes begin with bytes that stand at the front of the buffer, and lose them
abbrev pub ConsumesFront : Option (List ℕ) → Option (List ℕ) → List ℕ → Type 0
ConsumesFront old new buf = (k : ℕ) × (k ≤ length buf) × Consumes old new (take k buf)
