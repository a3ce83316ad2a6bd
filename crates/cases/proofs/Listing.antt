-- What the program writes for the pillow, by computation. Assumes nothing.
use mathlib.Core.Path.{refl}
use Rattle.program.specs.Operations.Operations.{straighten_lines, spread_lines, check_lines}
use Rattle.program.specs.Program.{output_of}
use Rattle.cases.specs.Listing.{ListingHolds}
use Rattle.cases.proofs.Hold.{floats, meshes, calls, spreads}
use Rattle.cases.proofs.Program.{reading, writing}

pub listing_holds : ListingHolds
unfolding floats meshes calls spreads reading writing straighten_lines spread_lines check_lines output_of
listing_holds = record { codes = refl; straightening = refl; spreading = refl; checking = refl; refusing = refl }
