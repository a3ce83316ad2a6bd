-- The blocks, one after the other, up to the lowest halfedge that question 32 refuses. Assumes nothing.
use Prim.Native.Nat.{ℕ, ◌+◌, ◌*◌, ◌-◌, ◌≤◌, ◌<◌, min}
use native.Mathlib.Omega.{arith}
use native.Mathlib.Nat.{eq-or-lt_of_le}
use native.Mathlib.Decide.{dec_le, dec_lt}
use mathlib.Core.Path.{◌≡◌, refl, sym}
use mathlib.Core.List.{List}
use mathlib.Core.Logic.{◌⊎◌, inl, inr}
use mathlib.Core.Bool.{Bool, true, false}
use lib.Dec.{ltb}
use lib.ListN.{get_or}
use Rattle.std.proofs.lemmas.Bool.{ltb-true, ltb-false, not-false}
use Rattle.common.specs.Lowest.{lowest}
use Rattle.common.proofs.Lowest.{lowest_within, lowest_is, lowest_all}
use Rattle.stl.specs.File.File.{halfedge_count}
use Rattle.stl.specs.File.Edges.{same_edge, is_reverse, pair_of, is_paired}
use Rattle.stl.proofs.FileLaws.Edges.{false_or_true, count_other, corners_edge, reverses_same, reverse_back, pair_found, pair_there, pair_least, unpaired, edge_reverse}
use Rattle.stl.specs.declared.table.Keys.TheVariants.{Edges}
use Rattle.stl.specs.declared.table.block.Block.{Block}
use Rattle.stl.specs.Pairs.Twins.{none, back_at, Twin, Covered, Scanned}
use Rattle.stl.proofs.PairsLaws.Backs.{back_reverse, back_least, back_same, back_is}

module _ (s : List ℕ) where
  -- all blocks are done
  module _ {worst : ℕ} (c : Covered s (halfedge_count s) worst) where
    not_below : (e : ℕ) → e < halfedge_count s → is_paired s e ≡ false → worst ≤ e
    not_below e h b = go (ltb (pair_of s e) (halfedge_count s)) refl
      where
        go : (t : Bool) → ltb (pair_of s e) (halfedge_count s) ≡ t → worst ≤ e
        go false q = c.alone e h (λ f l r. let w = pair_least s e f r in let z = ltb-false (pair_of s e) (halfedge_count s) q in omega arith)
        go true q =
            let l = ltb-true (pair_of s e) (halfedge_count s) q in
            let r = reverse_back s e (pair_of s e) (not-false _ (pair_found s e l)) in
            let o = count_other (same_edge s e) (halfedge_count s) e h (corners_edge s e e refl refl) (unpaired s e q b) in
            both (pair_of s e) o.0 l o.1 o.3 r (edge_reverse s e o.0 (pair_of s e) o.2 r) (dec_le e o.0)
          where
            both : (f g : ℕ) → f < halfedge_count s → g < halfedge_count s → (g ≡ e → ⊥) → is_reverse s f e ≡ true → is_reverse s f g ≡ true → Dec (e ≤ g) → worst ≤ e
            both f g lf lg d x y (yes z) = c.twice f e g lf (omega arith) lg x y
            both f g lf lg d x y (no z) = omega (arith, c.twice f g e lf (omega arith) h y x)

    pub covered_lowest : worst ≡ lowest (is_paired s) (halfedge_count s)
    covered_lowest = go (eq-or-lt_of_le c.within)
      where
        yes_below : (k : ℕ) → k < worst → is_paired s k ≡ true
        yes_below k l = pick (is_paired s k) refl
          where
            pick : (t : Bool) → is_paired s k ≡ t → is_paired s k ≡ true
            pick true q = q
            pick false q = let w = not_below k (omega (arith, c.within)) q in absurd (omega arith)

        go : (worst ≡ halfedge_count s) ⊎ (worst < halfedge_count s) → worst ≡ lowest (is_paired s) (halfedge_count s)
        go (inl e) = let a = lowest_all (is_paired s) (halfedge_count s) (λ k l. yes_below k (omega arith)) in let b = lowest_within (is_paired s) (halfedge_count s) in omega arith
        go (inr l) = sym (lowest_is (is_paired s) (halfedge_count s) worst l (c.bad l) yes_below)

module _ {B : Block} (edges : B.keys ≡ Edges) where
  -- where the halfedge is paired, its twin is its pair
  twin_pair : (k v : ℕ) → k < B.count → is_paired B.file.bytes.now (B.lo + k) ≡ true → Twin B (3 * B.file.triangles) k v → v ≡ pair_of B.file.bytes.now (B.lo + k)
  twin_pair k v h paired t =
      let s = B.file.bytes.now in
      let q = pair_there s (B.lo + k) paired in
      let f = pair_of s (B.lo + k) in
      let w = t.least f (omega (arith, q.0, B.file.counted)) (back_is B edges k f h q.1 paired) in
      let p = t.some (omega (arith, q.0, B.file.counted, B.file.few)) in
      let r = back_reverse B edges v (omega (arith, p.1)) in
      let e : B.lo + back_at B v ≡ B.lo + k = omega (arith, p.1) in
      let u = pair_least s (B.lo + k) v (rw e at r) in
      omega arith

  module _ {twins : List ℕ} {worst : ℕ} (sc : Scanned B (3 * B.file.triangles) twins worst) where
    -- a halfedge to which none leads back is not paired
    lone_bad : (k : ℕ) → k < B.count → get_or twins k 0 ≡ none → is_paired B.file.bytes.now (B.lo + k) ≡ false
    lone_bad k h v = false_or_true _ (λ p. omega (arith, twin_pair k (get_or twins k 0) h p (sc.twin k h), (pair_there B.file.bytes.now (B.lo + k) p).0, B.file.counted, B.file.few))

    -- any bound that is refused, and not above the old one nor a halfedge to which none leads back, covers the block, too
    module _ (low : ℕ) (within : low ≤ worst) (bad : low < halfedge_count B.file.bytes.now → is_paired B.file.bytes.now low ≡ false) (lone : (k : ℕ) → k < B.count → get_or twins k 0 ≡ none → low ≤ B.lo + k) where
      alone_next : (e : ℕ) → e < B.lo + B.count → ((f : ℕ) → f < halfedge_count B.file.bytes.now → is_reverse B.file.bytes.now e f ≡ true → ⊥) → Dec (B.lo ≤ e) → low ≤ e
      alone_next e h d (no x) = omega (arith, sc.covered.alone e (omega arith) d)
      alone_next e h d (yes x) = go (dec_lt (get_or twins (e - B.lo) 0) none)
        where
          go : Dec (get_or twins (e - B.lo) 0 < none) → low ≤ e
          go (no y) = let t : e - B.lo < B.count = omega arith in let w = lone (e - B.lo) t (omega (arith, (sc.twin (e - B.lo) t).top)) in omega arith
          go (yes y) =
              let t : e - B.lo < B.count = omega arith in
              let f = get_or twins (e - B.lo) 0 in
              let p = (sc.twin (e - B.lo) t).some y in
              let q : B.lo + back_at B f ≡ e = omega (arith, p.1) in
              let r = back_reverse B edges f (omega (arith, p.1)) in
              absurd (d f (omega (arith, p.0, B.file.counted)) (rw q at r))

      twice_next : (e f g : ℕ) → e < B.lo + B.count → f < g → g < halfedge_count B.file.bytes.now → is_reverse B.file.bytes.now e f ≡ true → is_reverse B.file.bytes.now e g ≡ true → Dec (B.lo ≤ e) → low ≤ f
      twice_next e f g h x y a b (no z) = omega (arith, sc.covered.twice e f g (omega arith) x y a b)
      twice_next e f g h x y a b (yes z) =
          let q : B.lo + (e - B.lo) ≡ e = omega arith in
          let t : is_reverse B.file.bytes.now (B.lo + (e - B.lo)) f ≡ true = rw q a in
          let u = back_least B edges f (e - B.lo) t in
          let w = sc.twice (back_at B f) f g (omega arith) x (omega (arith, B.file.counted)) refl (sym (back_same B f g (reverses_same B.file.bytes.now e f g a b))) in
          omega arith

      pub covered_next : Covered B.file.bytes.now (B.lo + B.count) low
      covered_next =
          record {
            bad = bad;
            within = omega (arith, sc.covered.within);
            alone = λ e h d. alone_next e h d (dec_le B.lo e);
            twice = λ e f g h x y a b. twice_next e f g h x y a b (dec_le B.lo e);
          }

    -- the first halfedge of the block to which none leads back
    pub covered_first : {k low : ℕ} → k < B.count → get_or twins k 0 ≡ none → ((i : ℕ) → i < k → get_or twins i 0 ≡ none → ⊥) → low ≡ min worst (B.lo + k) → Covered B.file.bytes.now (B.lo + B.count) low
    covered_first {k} {low} h v f n = covered_next low (omega arith) (λ z. refused (dec_le worst (B.lo + k)) z) (λ i l u. lone i u (dec_lt i k))
      where
        refused : Dec (worst ≤ B.lo + k) → low < halfedge_count B.file.bytes.now → is_paired B.file.bytes.now low ≡ false
        refused (yes l) z = let q : low ≡ worst = omega arith in rw q (sc.covered.bad (omega arith))
        refused (no l) z = let q : low ≡ B.lo + k = omega arith in rw q (lone_bad k h v)

        lone : (i : ℕ) → get_or twins i 0 ≡ none → Dec (i < k) → low ≤ B.lo + i
        lone i u (yes l) = absurd (f i l u)
        lone i u (no l) = omega arith

    -- none of it is such a one
    pub covered_same : ((i : ℕ) → i < B.count → get_or twins i 0 ≡ none → ⊥) → Covered B.file.bytes.now (B.lo + B.count) worst
    covered_same f = covered_next worst (omega arith) sc.covered.bad (λ i l u. absurd (f i l u))
