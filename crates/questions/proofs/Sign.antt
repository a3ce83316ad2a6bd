-- The sign of a float, by the library's tests and by question 10.
use Rattle.std.proofs.Common.{◌≡◌, ℕ, refl, true, false, not, arith}
use lib.Ieee.{Float, nan, inf, fin, is_nan}
use Rattle.std.specs.Float.{is_sign_negative}
use Rattle.questions.specs.Questions.{sign_clear}

pub number_sign : (x : Float) → is_nan x ≡ false → not (is_sign_negative x) ≡ sign_clear x
unfolding is_nan is_sign_negative sign_clear
number_sign nan e = absurd (let z : ◌≡◌ {A = ℕ} 0 1 = cc in omega arith)
number_sign (inf s) e = refl
number_sign (fin s m k) e = refl

pub nan_sign : (x : Float) → is_nan x ≡ true → false ≡ sign_clear x
unfolding is_nan sign_clear
nan_sign nan e = refl
nan_sign (inf s) e = absurd (let z : ◌≡◌ {A = ℕ} 0 1 = cc in omega arith)
nan_sign (fin s m k) e = absurd (let z : ◌≡◌ {A = ℕ} 0 1 = cc in omega arith)
