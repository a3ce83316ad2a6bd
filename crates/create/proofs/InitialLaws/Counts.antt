-- How many of the first tangents count: at most all; and 2 for each forward halfedge that passes a test is 1 for each that passes, where both halfedges of an edge pass it or neither does. Assumes nothing.
use Prim.Native.Nat.{ℕ, ◌+◌, ◌*◌, ◌≤◌, ◌<◌}
use native.Mathlib.Omega.{arith}
use mathlib.Core.Path.{◌≡◌, refl, ◌∙◌}
use mathlib.Core.Bool.{Bool, true, false, cond, not, ◌&&◌}
use mathlib.Core.List.{List}
use lib.Ieee.{Float}
use Rattle.mesh.specs.Mesh.{paired_halfedge, is_forward, Halfedges}
use Rattle.mesh.specs.Sound.{Sound}
use Rattle.mesh.proofs.Pairs.{one_forward, paired_injective}
use Rattle.common.specs.Count.{sum, count_below}
use Rattle.std.proofs.lemmas.Bool.{and_parts}
use Rattle.common.proofs.Sums.{sum_ext, sum_add, sum_times}
use Rattle.common.proofs.Count.{count_within, count_inject}
use Rattle.create.specs.Initial.First.{first_directionless, firsts_directionless}

pub firsts_within : (H : Halfedges) (P : List Float) (inside : ℕ → Bool) (n : ℕ) → firsts_directionless H P inside n ≤ n
firsts_within H P inside n = count_within (first_directionless H P inside) n

module _ {H : Halfedges} {n p : ℕ} (s : Sound H n p) (t : ℕ → Bool) (shared : (e : ℕ) → e < n → t (paired_halfedge H e) ≡ t e) where
  -- the forward ones that pass, and the others
  abbrev ahead : ℕ → Bool
  ahead e = is_forward H e && t e

  abbrev behind : ℕ → Bool
  behind e = not (is_forward H e) && t e

  to_behind : (e : ℕ) → e < n → ahead e ≡ true → (paired_halfedge H e < n) × (behind (paired_halfedge H e) ≡ true)
  to_behind e h q =
      let z = and_parts (is_forward H e) (t e) q in
      (s.paired_below e h, rw (one_forward s e h, shared e h, z.0, z.1))

  to_ahead : (e : ℕ) → e < n → behind e ≡ true → (paired_halfedge H e < n) × (ahead (paired_halfedge H e) ≡ true)
  to_ahead e h q =
      let z = and_parts (not (is_forward H e)) (t e) q in
      (s.paired_below e h, rw (one_forward s e h, shared e h, z.0, z.1))

  -- the pair takes the ones to the others, both ways
  halves : count_below ahead n ≡ count_below behind n
  halves =
      omega (
        arith,
        count_inject (paired_halfedge H) n ahead n behind to_behind (paired_injective s),
        count_inject (paired_halfedge H) n behind n ahead to_ahead (paired_injective s),
      )

  split : count_below t n ≡ count_below ahead n + count_below behind n
  unfolding count_below
  split = sum_ext n _ _ (λ e l. go (is_forward H e) (t e)) ∙ sum_add n (λ e. cond (ahead e) 1 0) (λ e. cond (behind e) 1 0)
    where
      go : (f b : Bool) → ◌≡◌ {A = ℕ} (cond b 1 0) (cond (f && b) 1 0 + cond (not f && b) 1 0)
      go true true = refl
      go true false = refl
      go false true = refl
      go false false = refl

  doubled : sum n (λ e. cond (ahead e) 2 0) ≡ 2 * count_below ahead n
  unfolding count_below
  doubled = sum_ext n _ _ (λ e l. go (ahead e)) ∙ sum_times n 2 (λ e. cond (ahead e) 1 0)
    where
      go : (b : Bool) → ◌≡◌ {A = ℕ} (cond b 2 0) (2 * cond b 1 0)
      go true = refl
      go false = refl

  pub pairs_count : sum n (λ e. cond (is_forward H e && t e) 2 0) ≡ count_below t n
  pairs_count = omega (arith, doubled, split, halves)
