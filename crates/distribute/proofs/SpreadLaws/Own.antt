-- The unit's own list of starts, the fixed halfedges in ascending order: it names each once, and nothing else.
use mathlib.Core.Path.{◌≡◌, refl, sym, ap, ◌∙◌}
use mathlib.Core.Bool.{Bool, true, false, true≢false}
use Prim.Native.Nat.{ℕ, zero, suc, ◌+◌, ◌≤◌, ◌<◌}
use native.Mathlib.Decide.{ℕ_discrete}
use native.Mathlib.Omega.{arith}
use native.Mathlib.Numerals.{add-one}
use lib.ListN.{length, get_or}
use Rattle.std.specs.List.Sorted.{IsStrictlyIncreasing}
use Rattle.cycles.specs.Count.{count, ◌∈◌}
use Rattle.cycles.proofs.Count.{delta_equal, delta_other}
use Rattle.distribute.specs.Spread.Steps.{Steps}
use Rattle.distribute.specs.Spread.Spread.{fixed_from, pass}
use Rattle.distribute.specs.Spread.Order.{NamesFixed, OwnStarts}
use Rattle.distribute.proofs.SpreadLaws.Branches.{fixed_none, fixed_here, fixed_later}

module _ (S : Steps) where
  open S use {n, fixed}

  -- a number below the first is not in the list
  count_before : (k i e : ℕ) → e < i → count e (fixed_from S k i) ≡ 0
  unfolding count
  count_before zero i e l = rw (fixed_none S i)
  count_before (suc k) i e l = go (fixed i) refl (count_before k (suc i) e (omega arith))
    where
      go : (b : Bool) → fixed i ≡ b → count e (fixed_from S k (suc i)) ≡ 0 → count e (fixed_from S (suc k) i) ≡ 0
      go true f ih = rw (fixed_here S k i f) (omega (arith, delta_other e i (λ q. omega arith)))
      go false f ih = rw (fixed_later S k i f) ih

  count_fixed : (k i e : ℕ) → i ≤ e → e < i + k → fixed e ≡ true → count e (fixed_from S k i) ≡ 1
  unfolding count
  count_fixed zero i e l u fe = absurd (omega arith)
  count_fixed (suc k) i e l u fe = go (fixed i) refl (ℕ_discrete e i) (λ b. count_fixed k (suc i) e b (omega arith) fe)
    where
      go : (b : Bool) → fixed i ≡ b → Dec (e ≡ i) → (suc i ≤ e → count e (fixed_from S k (suc i)) ≡ 1) → count e (fixed_from S (suc k) i) ≡ 1
      go true f (yes q) ih = rw (fixed_here S k i f) (omega (arith, delta_equal e i q, count_before k (suc i) e (omega arith)))
      go true f (no q) ih = rw (fixed_here S k i f) (omega (arith, delta_other e i q, ih (omega arith)))
      go false f (yes q) ih = absurd (true≢false (sym fe ∙ ap fixed q ∙ f))
      go false f (no q) ih = rw (fixed_later S k i f) (ih (omega arith))

  only_fixed : (k i e : ℕ) → e ∈ fixed_from S k i → (e < i + k) × (fixed e ≡ true)
  unfolding count
  only_fixed zero i e m = absurd (let z : 1 ≤ 0 = rw (fixed_none S i) at m in omega arith)
  only_fixed (suc k) i e m = go (fixed i) refl (ℕ_discrete e i) (only_fixed k (suc i) e)
    where
      go : (b : Bool) → fixed i ≡ b → Dec (e ≡ i) → (e ∈ fixed_from S k (suc i) → (e < suc i + k) × (fixed e ≡ true)) → (e < i + suc k) × (fixed e ≡ true)
      go true f (yes q) ih = (omega arith, ap fixed q ∙ f)
      go true f (no q) ih = let w = ih (omega (arith, rw (fixed_here S k i f) at m, delta_other e i q)) in (omega (arith, w.0), w.1)
      go false f d ih = let w = ih (rw (fixed_later S k i f) at m) in (omega (arith, w.0), w.1)

  pub own : NamesFixed S (fixed_from S n 0)
  own = record {
    each = λ e l f. count_fixed n 0 e (omega arith) (omega arith) f;
    only = λ e m. (omega (arith, (only_fixed n 0 e m).0), (only_fixed n 0 e m).1);
  }

  -- no number of the list is below the first
  at_least : (m i k : ℕ) → k < length (fixed_from S m i) → i ≤ get_or (fixed_from S m i) k 0
  at_least zero i k l = absurd (let z : k < 0 = rw (fixed_none S i) at l in omega arith)
  at_least (suc m) i k l = go (fixed i) refl k l (λ k. at_least m (suc i) k)
    where
      go : (b : Bool) → fixed i ≡ b → (k : ℕ) → k < length (fixed_from S (suc m) i)
          → ((k : ℕ) → k < length (fixed_from S m (suc i)) → suc i ≤ get_or (fixed_from S m (suc i)) k 0) → i ≤ get_or (fixed_from S (suc m) i) k 0
      go true f zero l ih = rw (fixed_here S m i f) (omega arith)
      go true f (suc k) l ih = rw (fixed_here S m i f) (omega (arith, ih k (let z : suc k < suc (length (fixed_from S m (suc i))) = rw (fixed_here S m i f) at l in omega arith)))
      go false f k l ih = rw (fixed_later S m i f) (omega (arith, ih k (rw (fixed_later S m i f) at l)))

  ascending : (m i : ℕ) → IsStrictlyIncreasing (fixed_from S m i)
  ascending zero i k l = absurd (let z : k + 1 < 0 = rw (fixed_none S i) at l in omega arith)
  ascending (suc m) i k l = go (fixed i) refl k l (ascending m (suc i))
    where
      go : (b : Bool) → fixed i ≡ b → (k : ℕ) → k + 1 < length (fixed_from S (suc m) i)
          → IsStrictlyIncreasing (fixed_from S m (suc i)) → get_or (fixed_from S (suc m) i) k 0 < get_or (fixed_from S (suc m) i) (k + 1) 0
      go true f zero l ih =
          rw (fixed_here S m i f) (omega (arith, at_least m (suc i) 0 (let z : 1 < suc (length (fixed_from S m (suc i))) = rw (fixed_here S m i f) at l in omega arith)))
      go true f (suc k) l ih =
          let z : suc k + 1 < suc (length (fixed_from S m (suc i))) = rw (fixed_here S m i f) at l in
          rw (fixed_here S m i f, add-one (suc k)) (rw (add-one k) at (ih k (omega arith)))
      go false f k l ih = rw (fixed_later S m i f) (ih k (rw (fixed_later S m i f) at l))

  pub own_starts : OwnStarts S
  unfolding pass
  own_starts = record { names = own; ascending = ascending n 0; pass_is = λ ts. refl }
