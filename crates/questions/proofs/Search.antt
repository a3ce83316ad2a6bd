-- The search for the lowest place that breaks a question: what its loop keeps, and what it finds.
use Prim.Native.Nat.{ℕ, zero, suc, ◌+◌, ◌-◌, ◌≤◌, ◌<◌}
use native.Mathlib.Numerals.{add-one}
use native.Mathlib.Omega.{arith}
use mathlib.Core.Path.{◌≡◌, refl, sym, ◌∙◌}
use mathlib.Core.Bool.{Bool, true, false}
use borrow.Author.Tests.{lt-ltb, le-ltb, le-leb, lt-leb}
use lib.Dec.{leb}
use Rattle.std.specs.Prelude.{Ok}
use Rattle.std.specs.List.{list_all, range_with_len}
use Rattle.common.specs.Lowest.{lowest, lowest_from}
use Rattle.questions.specs.Check.{refused, each}
use Rattle.questions.specs.declared.Question.{Question}
use Rattle.common.proofs.Lowest.{lowest_start, lowest_no, lowest_yes, lowest_end}

-- the places below k passed the test t: what is to be found from k on is what is to be found of all m
abbrev pub Searched : (ℕ → Bool) → ℕ → ℕ → Type 0
Searched t m k = (k ≤ m) × (lowest_from t (m - k) k ≡ lowest t m)

module _ (t : ℕ → Bool) (m : ℕ) where
  pub search_start : Searched t m 0
  search_start = (omega arith, lowest_start t m)

  pub search_on : (k : ℕ) → k < m → true ≡ t k → Searched t m k → Searched t m (k + 1)
  search_on k h e s = (omega arith, sym (lowest_yes t m k h (sym e)) ∙ s.1)

  module _ (q : Question) (k : ℕ) (s : Searched t m k) where
    pub search_found : k < m → false ≡ t k → refused q k ≡ each q t m
    search_found h e = let l : lowest t m ≡ k = sym s.1 ∙ lowest_no t m k h (sym e) in rw (l, lt-ltb k m h)

    pub search_end : m ≤ k → Ok tt ≡ each q t m
    search_end h = let l : lowest t m ≡ k = sym s.1 ∙ lowest_end t m k h in rw (l, le-ltb k m h)

-- a test of k places from i on, one after the other
all_from : (t : ℕ → Bool) (k i : ℕ) → list_all t (range_with_len i k) ≡ leb (k + i) (lowest_from t k i)
unfolding lowest_from
all_from t zero i = sym (le-leb (0 + i) i (omega arith))
all_from t (suc k) i = go (t i) refl (all_from t k (i + 1))
  where
    go : (b : Bool) → t i ≡ b → list_all t (range_with_len (i + 1) k) ≡ leb (k + (i + 1)) (lowest_from t k (i + 1)) → list_all t (range_with_len i (suc k)) ≡ leb (suc k + i) (lowest_from t (suc k) i)
    go true e ih = let z : suc k + i ≡ k + (i + 1) = omega arith in let l : lowest_from t (suc k) i ≡ lowest_from t k (i + 1) = rw add-one (rw (e, lowest_from)) in rw (l, e, z) ih
    go false e ih = let l : lowest_from t (suc k) i ≡ i = rw (e, lowest_from) in rw (e, l) (sym (lt-leb (suc k + i) i (omega arith)))

pub all_lowest : (t : ℕ → Bool) (m : ℕ) → list_all t (range_with_len 0 m) ≡ leb m (lowest t m)
unfolding lowest
all_lowest t m = let z : m + 0 ≡ m = omega arith in rw z at (all_from t m 0)
