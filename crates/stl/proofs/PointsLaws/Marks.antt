-- How the marks of a block come about: from the block itself first, and then from each place below it. Assumes nothing.
use Prim.Native.Nat.{ℕ, ◌+◌, ◌*◌, ◌-◌, ◌≤◌, ◌<◌}
use native.Mathlib.Omega.{arith}
use native.Mathlib.Nat.{eq-or-lt_of_le}
use mathlib.Core.Path.{◌≡◌, refl, sym, ap, ◌∙◌}
use mathlib.Core.List.{List}
use mathlib.Core.Logic.{◌⊎◌, inl, inr}
use mathlib.Core.Bool.{Bool, true, false, not}
use lib.Dec.{eqb}
use lib.ListN.{get_or, length, set}
use lib.Seq.{get_or-set_same, get_or-set_other}
use Rattle.std.proofs.lemmas.Bool.{eqb-true, eqb-false, not-false}
use Rattle.common.proofs.Lowest.{lowest_within, lowest_found, lowest_least}
use Rattle.stl.specs.Table.Keys.{key_at, has_key, first_at}
use Rattle.stl.specs.declared.table.Key.{Key}
use Rattle.stl.specs.declared.table.block.Block.{Block}
use Rattle.stl.proofs.TableLaws.SameKey.{key_equal, key_same}
use Rattle.stl.specs.Points.Firsts.{InBlock, Near, Marked}

module _ (B : Block) where
  -- the key of a place of the file
  abbrev key : ℕ → Key
  key p = key_at B.file.bytes.now B.keys p

  -- the lowest of the block's first m places with a key
  module _ (q : Key) (m : ℕ) where
    found_key : first_at B q m < m → key (B.lo + first_at B q m) ≡ q
    found_key h = key_equal _ _ (not-false _ (lowest_found (λ k. not (has_key B q k)) m h))

    found_least : (k : ℕ) → key (B.lo + k) ≡ q → first_at B q m ≤ k
    found_least k e = lowest_least (λ k. not (has_key B q k)) m k (rw e (rw (key_same q)))

    found_within : first_at B q m ≤ m
    found_within = lowest_within (λ k. not (has_key B q k)) m

  -- ---- from the block itself
  pub entered_few : (m r : ℕ) → m < B.count → r ≡ first_at B (key (B.lo + m)) m → B.lo + r < 3 * B.file.triangles
  entered_few m r h e = omega (arith, found_within (key (B.lo + m)) m, B.within)

  near_start : (k : ℕ) → Near B.file.bytes.now B.keys B.lo (B.lo + k) (B.lo + first_at B (key (B.lo + k)) k)
  near_start k = go (eq-or-lt_of_le (found_within q k))
    where
      q : Key
      q = key (B.lo + k)

      go : (first_at B q k ≡ k) ⊎ (first_at B q k < k) → Near B.file.bytes.now B.keys B.lo (B.lo + k) (B.lo + first_at B q k)
      go (inl e) =
          record {
            below = omega arith;
            same = rw e;
            alone = λ z i l h c. let f : B.lo + (i - B.lo) ≡ i = omega arith in let g = found_least q k (i - B.lo) (ap key f ∙ c) in omega arith;
          }
      go (inr l) =
          record {
            below = omega arith;
            same = found_key q k l;
            alone = λ z. absurd (omega arith);
          }

  pub marked_start : (first : List ℕ) → InBlock B B.count first → Marked B B.lo first
  unfolding Marked
  marked_start first e k h = rw (e k h) (near_start k)

  -- ---- from a place below the block
  module _ (j : ℕ) (first : List ℕ) (below : j < B.lo) (marked : Marked B (j + 1) first) where
    -- where place j has another key than the block's place k, or a lower one in the block has it too, k keeps its mark
    keep : (k : ℕ) → k < B.count → (key j ≡ key (B.lo + k) → (i : ℕ) × (i < k) × (key (B.lo + i) ≡ key j)) → Near B.file.bytes.now B.keys j (B.lo + k) (get_or first k 0)
    unfolding Marked
    keep k h f =
        let n = marked k h in
        record {
          below = n.below;
          same = n.same;
          alone = λ q i l g c. go (n.alone q) i g c (eq-or-lt_of_le l);
        }
      where
        go : ((i : ℕ) → j + 1 ≤ i → i < B.lo + k → key i ≡ key (B.lo + k) → ⊥) → (i : ℕ) → i < B.lo + k → key i ≡ key (B.lo + k) → (j ≡ i) ⊎ (j < i) → ⊥
        go old i g c (inl e) =
            let c' : key j ≡ key (B.lo + k) = ap key e ∙ c in
            let w = f c' in
            old (B.lo + w.0) (omega arith) (omega (arith, w.1)) (w.2 ∙ c')
        go old i g c (inr l) = old i (omega arith) g c

    module _ (r : ℕ) (e : r ≡ first_at B (key j) B.count) where
      pub marked_none : B.count ≤ r → Marked B j first
      unfolding Marked
      marked_none h k l = keep k l (λ c. let g = found_least (key j) B.count k (sym c) in absurd (omega arith))

      pub marked_set : r < B.count → B.count ≤ length first → Marked B j (set first r j)
      unfolding Marked
      marked_set h long k l = go (eqb k r) refl
        where
          at_r : key (B.lo + r) ≡ key j
          at_r = let g : first_at B (key j) B.count < B.count = omega arith in rw e (found_key (key j) B.count g)

          go : (b : Bool) → eqb k r ≡ b → Near B.file.bytes.now B.keys j (B.lo + k) (get_or (set first r j) k 0)
          go true q =
              let p : k ≡ r = eqb-true k r q in
              let v : get_or (set first r j) k 0 ≡ j = rw p (get_or-set_same first r j 0 (omega arith)) in
              rw v (record { below = omega arith; same = rw p (sym at_r); alone = λ z. absurd (omega arith) })
          go false q =
              let p : k ≡ r → ⊥ = eqb-false k r q in
              rw (get_or-set_other first r k j 0 p)
              (keep k l (λ c. let g = found_least (key j) B.count k (sym c) in (r, (let z : r < k = omega arith in z), at_r)))
