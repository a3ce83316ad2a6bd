-- How often a number stands in a list, and how many of the numbers below n have a property.
use Rattle.std.specs.Prelude.{ℕ, suc, ◌+◌, ◌≤◌, cond, List, [], ◌∷◌, eqb}

-- 1 where the two are equal, 0 elsewhere (Kronecker's delta)
abbrev pub delta : ℕ → ℕ → ℕ
delta e x = cond (eqb e x) 1 0

-- how often e stands in a list
unfoldable pub count : ℕ → List ℕ → ℕ
count e [] = 0
count e (x ∷ xs) = delta e x + count e xs

-- e stands in the list
infix 4 ◌∈◌
abbrev pub ◌∈◌ : ℕ → List ℕ → Type 0
◌∈◌ e xs = 1 ≤ count e xs

-- exactly k of the numbers below n have P
pub data Exactly (P : ℕ → Type 0) : ℕ → ℕ → Type 0 where
  none : Exactly P 0 0
  hit : {n k : ℕ} → Exactly P n k → P n → Exactly P (suc n) (suc k)
  miss : {n k : ℕ} → Exactly P n k → ¬ P n → Exactly P (suc n) k
