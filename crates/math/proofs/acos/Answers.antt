-- `math::acos` of not-a-number is the definition's. Assumes nothing.
use mathlib.Core.Path.{◌≡◌, refl, sym, subst, ◌∙◌}
use lib.Ieee.{Float, nan, to_bits, of_bits, sub, div}
use Rattle.float.proofs.Nan.{is_nan_lem, nan_test}
use Rattle.math.specs.Kernels.{abs_high_word}
use Rattle.math.specs.Acos.{acos_beyond, acos_of}
use Rattle.math.proofs.acos.Goals as goal

at_nan : nan ≡ acos_of nan
unfolding acos_of acos_beyond abs_high_word to_bits of_bits sub div
at_nan = refl

pub returns-then-is_nan : goal.returns-then-is_nan
returns-then-is_nan c =
    subst (λ (x : Float). x ≡ acos_of x) (sym (is_nan_lem c.args.x (sym (nan_test c.args.x) ∙ sym c.is_nan.ensures.value ∙ c.if-is_nan.true))) at_nan
