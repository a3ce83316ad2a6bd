-- The code's test whether two flags differ is the definition's. Assumes nothing.
use mathlib.Core.Bool.{Bool, true, false, not, beq, xor}
use mathlib.Core.Path.{◌≡◌, refl}

pub xor_is : (a b : Bool) → xor a b ≡ not (beq a b)
unfolding xor
xor_is true true = refl
xor_is true false = refl
xor_is false true = refl
xor_is false false = refl
