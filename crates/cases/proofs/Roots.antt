-- The cases of specs/Roots.antt hold, by computation. Assumes nothing.
use mathlib.Core.Path.{refl}
use lib.Ieee.{of_bits}
use Rattle.sqrt.specs.Sqrt.{square_root}
use Rattle.cases.specs.Roots.{RootsHold}

pub roots_hold : RootsHold
unfolding square_root of_bits
roots_hold = record { two = refl; largest = refl; smallest = refl }
