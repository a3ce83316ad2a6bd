-- One halfedge of a scan. Assumes nothing.
use Prim.Native.Nat.{ℕ, ◌+◌, ◌*◌, ◌≤◌, ◌<◌, min}
use native.Mathlib.Omega.{arith}
use native.Mathlib.Nat.{eq-or-lt_of_le}
use native.Mathlib.Decide.{dec_le, ℕ_discrete}
use mathlib.Core.Path.{◌≡◌, sym, ap, ◌∙◌}
use mathlib.Core.List.{List}
use mathlib.Core.Logic.{◌⊎◌, inl, inr}
use mathlib.Core.Bool.{false}
use lib.ListN.{get_or, length, set, length-set, replicate}
use lib.Seq.{get_or-set_same, get_or-set_other}
use Rattle.common.proofs.Filled.{filled_at}
use Rattle.stl.specs.File.File.{halfedge_count}
use Rattle.stl.specs.File.Edges.{is_paired}
use Rattle.stl.proofs.FileLaws.Edges.{twice_bad}
use Rattle.stl.specs.declared.table.Keys.TheVariants.{Edges}
use Rattle.stl.specs.declared.table.block.Block.{Block}
use Rattle.stl.specs.Pairs.Twins.{none, back_at, Twin, Covered, Scanned}
use Rattle.stl.proofs.PairsLaws.Backs.{back_double}

-- a lower bound that is refused, too
covered_lower : {s : List ℕ} {lo worst low : ℕ} → Covered s lo worst → low ≤ worst → (low < halfedge_count s → is_paired s low ≡ false) → Covered s lo low
covered_lower c l bad =
    record {
      bad = bad;
      within = omega (arith, c.within);
      alone = λ e h d. omega (arith, c.alone e h d);
      twice = λ e f g h x y a b. omega (arith, c.twice e f g h x y a b);
    }

-- nothing was looked at yet
pub scanned_start : {B : Block} {twins : List ℕ} {worst : ℕ} (p : ℕ) → B.count ≤ length twins → twins ≡ replicate p none → Covered B.file.bytes.now B.lo worst → Scanned B 0 twins worst
scanned_start {B} {twins} {worst} p long e c =
    record {
      long = long;
      twin = λ k h. record { top = omega (arith, at_none k h); some = λ v. absurd (omega (arith, at_none k h)); least = λ g l. absurd (omega arith) };
      covered = c;
      twice = λ k f g l x y. absurd (omega arith);
    }
  where
    at_none : (k : ℕ) → k < B.count → get_or twins k 0 ≡ none
    at_none k h = filled_at twins p none 0 k e (omega arith)

module _ {B : Block} {m : ℕ} {twins : List ℕ} {worst : ℕ} (inside : m < 3 * B.file.triangles) (sc : Scanned B m twins worst) where
  -- the twin of a halfedge that m does not lead back to, or to which a lower one does
  old_twin : (k : ℕ) → k < B.count → (back_at B m ≡ k → get_or twins k 0 ≤ m) → Twin B (m + 1) k (get_or twins k 0)
  old_twin k h d =
      record {
        top = (sc.twin k h).top;
        some = λ v. let p = (sc.twin k h).some v in ((let l : get_or twins k 0 < m + 1 = omega (arith, p.0) in l), p.1);
        least = λ f l q. go f q (eq-or-lt_of_le (let l' : f ≤ m = omega arith in l'));
      }
    where
      go : (f : ℕ) → back_at B f ≡ k → (f ≡ m) ⊎ (f < m) → get_or twins k 0 ≤ f
      go f q (inl e) = let w = d (rw e at q) in omega arith
      go f q (inr l) = (sc.twin k h).least f l q

  -- two that lead back to one halfedge: only where m is the second, there is something to show
  old_twice : (low : ℕ) → low ≤ worst → (k f g : ℕ) → k < B.count → f < g → g < m + 1 → back_at B f ≡ k → back_at B g ≡ k → (back_at B m ≡ k → f < m → low ≤ f) → low ≤ f
  old_twice low w k f g h l x a b c = go (eq-or-lt_of_le (let y : g ≤ m = omega arith in y))
    where
      go : (g ≡ m) ⊎ (g < m) → low ≤ f
      go (inl e) = c (rw e at b) (omega arith)
      go (inr y) = omega (arith, sc.twice k f g h l y a b)

  -- m leads back to none of the block
  pub scan_none : {r : ℕ} → r ≡ back_at B m → B.count ≤ r → Scanned B (m + 1) twins worst
  scan_none e h =
      record {
        long = sc.long;
        twin = λ k l. old_twin k l (λ q. absurd (omega arith));
        covered = sc.covered;
        twice = λ k f g l x y a b. old_twice worst (omega arith) k f g l x y a b (λ q z. absurd (omega arith));
      }

  module _ {r : ℕ} (e : r ≡ back_at B m) (h : r < B.count) where
    -- it is the first that leads back there
    pub scan_first : get_or twins r 0 ≡ none → Scanned B (m + 1) (set twins r m) worst
    scan_first v =
        record {
          long = rw (length-set twins r m) sc.long;
          twin = λ k l. go k l (ℕ_discrete k r);
          covered = sc.covered;
          twice = λ k f g l x y a b. old_twice worst (omega arith) k f g l x y a b (λ q z. absurd (none_before f z (a ∙ sym q ∙ sym e)));
        }
      where
        none_before : (f : ℕ) → f < m → back_at B f ≡ r → ⊥
        none_before f l a = omega (arith, (sc.twin r h).least f l a, B.file.few)

        go : (k : ℕ) → k < B.count → Dec (k ≡ r) → Twin B (m + 1) k (get_or (set twins r m) k 0)
        go k l (yes p) =
            let w : get_or (set twins r m) k 0 ≡ m = rw p (get_or-set_same twins r m 0 (omega (arith, sc.long))) in
            rw w
            (record {
              top = omega (arith, B.file.few);
              some = λ z. ((let y : m < m + 1 = omega arith in y), sym e ∙ sym p);
              least = λ f x a. late f a (dec_le m f);
            })
          where
            late : (f : ℕ) → back_at B f ≡ k → Dec (m ≤ f) → m ≤ f
            late f a (yes y) = y
            late f a (no y) = absurd (none_before f (omega arith) (a ∙ p))
        go k l (no p) = rw (get_or-set_other twins r k m 0 p) (old_twin k l (λ z. absurd (p (sym z ∙ sym e))))

    -- another one did: both have one directed edge
    module _ (edges : B.keys ≡ Edges) (v : get_or twins r 0 ≡ none → ⊥) where
      before : (get_or twins r 0 < m) × (back_at B (get_or twins r 0) ≡ r)
      before = (sc.twin r h).some (omega (arith, (sc.twin r h).top))

      double_bad : is_paired B.file.bytes.now (get_or twins r 0) ≡ false
      double_bad =
          let g = get_or twins r 0 in
          twice_bad B.file.bytes.now g m (omega (arith, before.0, B.file.counted)) (omega (arith, B.file.counted)) (λ z. omega (arith, before.0)) (back_double B edges g m (omega (arith, before.1)) (before.1 ∙ e))

      pub scan_second : {low : ℕ} → low ≡ min worst (get_or twins r 0) → Scanned B (m + 1) twins low
      scan_second {low} n =
          record {
            long = sc.long;
            twin = λ k l. old_twin k l (λ q. let w : get_or twins k 0 ≡ get_or twins r 0 = ap (λ (j : ℕ). get_or twins j 0) (sym q ∙ sym e) in omega (arith, before.0));
            covered = covered_lower sc.covered (omega arith) (λ z. bad (dec_le worst (get_or twins r 0)) z);
            twice = λ k f g l x y a b. old_twice low (omega arith) k f g l x y a b (λ q z. let w = (sc.twin r h).least f z (a ∙ sym q ∙ sym e) in omega arith);
          }
        where
          bad : Dec (worst ≤ get_or twins r 0) → low < halfedge_count B.file.bytes.now → is_paired B.file.bytes.now low ≡ false
          bad (yes l) z = let q : low ≡ worst = omega arith in rw q (sc.covered.bad (omega arith))
          bad (no l) z = let q : low ≡ get_or twins r 0 = omega arith in rw q double_bad
