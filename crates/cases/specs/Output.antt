-- The lines of the program: what is written of spreading, of the mark check and of a refusal. The listing of the pillow is a case of Listing.antt.
use Rattle.std.specs.Prelude.{◌≡◌, true, false, [], ◌∷◌}
use Rattle.std.specs.Float.{nan}
use Rattle.float.specs.Ops.{lit}
use Rattle.program.specs.Lines.Text.{ascii}
use Rattle.program.specs.Lines.Lines.{lines_of}
use Rattle.program.specs.declared.lines.Output.TheVariants.{Spread, Valid, Refused}

pub record OutputHolds : Type 0 where
  pub spread : lines_of (Spread 1 2 0) (nan ∷ lit 0 ∷ lit 0 ∷ lit 0x8000_0000_0000_0000 ∷ []) ≡ ascii "tangents 1\n0 7ff8000000000000 0000000000000000 0000000000000000 8000000000000000\nlooked 2 turned 0\n"
  pub valid : lines_of (Valid true) [] ≡ ascii "valid 1\n"
  pub not_valid : lines_of (Valid false) [] ≡ ascii "valid 0\n"
  pub refused : lines_of (Refused 24 65535) [] ≡ ascii "refused 24 65535\n"
