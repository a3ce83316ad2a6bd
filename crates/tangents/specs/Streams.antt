-- What a run that fails leaves.
use Rattle.std.specs.Prelude.{ℕ, List, ⊤}
use Rattle.std.specs.declared.option.Option.{Option}
use Rattle.std.specs.Io.KnownBytes.{Keeps}
use Rattle.tangents.specs.declared.StreamError.{StreamError}
use Rattle.tangents.specs.declared.StreamError.TheVariants.{Input, Output}

-- nothing is written where the input could not be read
abbrev pub KeptIfUnread : Option (List ℕ) → Option (List ℕ) → StreamError → Type 0
KeptIfUnread old new (Input e) = Keeps old new
KeptIfUnread old new (Output e) = ⊤
