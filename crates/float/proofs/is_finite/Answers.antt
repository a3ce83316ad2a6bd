-- `float::is_finite` meets its contract: a finite number, and nothing else, lies between the infinities. Assumes nothing.
use Rattle.std.proofs.Common.{◌≡◌, true, false, sym, refl}
use lib.Ieee.{Float, nan, inf, fin, lt, neg, div, of_bits}
use Rattle.float.specs.F64.{is_finite}
use Rattle.float.proofs.is_finite.Goals as goal

under : (x : Float) → lt x (inf false) ≡ true → lt (inf true) x ≡ is_finite x
unfolding lt is_finite
under nan h = refl
under (inf true) h = refl
under (inf false) h = sym h
under (fin s m e) h = refl

not_under : (x : Float) → lt x (inf false) ≡ false → false ≡ is_finite x
unfolding lt is_finite
not_under nan h = refl
not_under (inf true) h = refl
not_under (inf false) h = refl
not_under (fin s m e) h = sym h

pub returns-then-x-infinity : goal.returns-then-x-infinity
unfolding neg div of_bits
returns-then-x-infinity c = under c.args.x c.if-x-infinity.true

pub returns-else-x-infinity : goal.returns-else-x-infinity
unfolding div of_bits
returns-else-x-infinity c = not_under c.args.x c.if-x-infinity.false
