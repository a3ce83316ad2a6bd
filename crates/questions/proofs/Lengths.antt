-- The lengths that question 2 finds.
use mathlib.Core.Path.{◌≡◌}
use mathlib.Core.Bool.{true}
use Prim.Native.Nat.{ℕ, ◌*◌}
use native.Mathlib.Omega.{arith}
use borrow.Author.Tests.{eqb-true}
use Rattle.questions.specs.Questions.{has_length}

-- a list with so many numbers for each of `count`
pub has_length_lem : (len count per : ℕ) → has_length len count per ≡ true → len ≡ count * per
has_length_lem len count per e = eqb-true _ _ e

-- with one for each
pub has_one : (len count : ℕ) → has_length len count 1 ≡ true → len ≡ count
has_one len count e = let q = has_length_lem len count 1 e in omega arith
