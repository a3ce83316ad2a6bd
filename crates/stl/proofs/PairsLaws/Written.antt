-- The writing of ends, pairs and rows: what each write adds, and that all together are the list of the definition. Assumes nothing.
use Prim.Native.Nat.{ℕ, zero, suc, ◌-◌, ◌+◌, ◌*◌, ◌/◌, ◌%◌, ◌≤◌, ◌<◌}
use native.Mathlib.Omega.{arith}
use native.Mathlib.Nat.{eq-or-lt_of_le}
use native.Mathlib.Decide.{ℕ_discrete, dec_lt}
use mathlib.Core.Path.{◌≡◌, sym, ap, ◌∙◌}
use mathlib.Core.List.{List}
use mathlib.Core.Logic.{◌⊎◌, inl, inr}
use mathlib.Core.Bool.{true}
use lib.ListN.{get_or, length, set, length-set}
use lib.Seq.{get_or-set_same, get_or-set_other}
use lib.IntN.{ℤ, pos}
use Rattle.mesh.specs.Mesh.{halfedge_stride, next_halfedge}
use Rattle.stl.specs.File.File.{halfedge_count}
use Rattle.stl.specs.File.Points.{point_of}
use Rattle.stl.specs.File.Edges.{is_reverse, pair_of}
use Rattle.stl.specs.File.Lists.{halfedge_number, halfedge_item}
use Rattle.stl.specs.File.Starts.{Starts}
use Rattle.stl.proofs.FileLaws.Edges.{reverses_same, reverse_back, twice_bad, pair_there, pair_back}
use Rattle.stl.specs.declared.table.Keys.TheVariants.{Edges}
use Rattle.stl.specs.declared.table.block.Block.{Block}
use Rattle.stl.specs.Pairs.Twins.{back_at}
use Rattle.stl.specs.Pairs.Written.{AllPaired, EndsRows, Below, Done, Paired, CanPair}
use Rattle.stl.proofs.PairsLaws.Backs.{back_reverse, back_is}

module _ (s : List ℕ) where
  -- ---- ends and rows
  pub ends_next : (e : ℕ) (L : List ℤ) {v w : ℤ} → EndsRows s e L → e * halfedge_stride + 3 < length L → v ≡ pos (point_of s (next_halfedge e)) → w ≡ pos e → EndsRows s (e + 1) (set (set L (e * halfedge_stride + 1) v) (e * halfedge_stride + 3) w)
  ends_next e L {v} {w} old long p q i h = go (eq-or-lt_of_le (let l : i ≤ e = omega arith in l))
    where
      M : List ℤ
      M = set L (e * halfedge_stride + 1) v

      other : (k j : ℕ) (x : ℤ) (N : List ℤ) → (k ≡ j → ⊥) → get_or (set N j x) k (pos 0) ≡ get_or N k (pos 0)
      other k j x N d = get_or-set_other N j k x (pos 0) d

      go : (i ≡ e) ⊎ (i < e) → (get_or (set M (e * halfedge_stride + 3) w) (i * halfedge_stride + 1) (pos 0) ≡ pos (point_of s (next_halfedge i))) × (get_or (set M (e * halfedge_stride + 3) w) (i * halfedge_stride + 3) (pos 0) ≡ pos i)
      go (inl z) =
          rw z (
            other (e * halfedge_stride + 1) (e * halfedge_stride + 3) w M (λ y. omega arith) ∙ get_or-set_same L (e * halfedge_stride + 1) v (pos 0) (omega arith) ∙ p,
            get_or-set_same M (e * halfedge_stride + 3) w (pos 0) (rw (length-set L (e * halfedge_stride + 1) v) long) ∙ q,
          )
      go (inr z) = (
        other (i * halfedge_stride + 1) (e * halfedge_stride + 3) w M (λ y. omega arith) ∙ other (i * halfedge_stride + 1) (e * halfedge_stride + 1) v L (λ y. omega arith) ∙ (old i z).0,
        other (i * halfedge_stride + 3) (e * halfedge_stride + 3) w M (λ y. omega arith) ∙ other (i * halfedge_stride + 3) (e * halfedge_stride + 1) v L (λ y. omega arith) ∙ (old i z).1,
      )

  -- ---- pairs
  module _ (all : AllPaired s) where
    pub pair_is : (e f : ℕ) → e < halfedge_count s → f < halfedge_count s → is_reverse s e f ≡ true → pair_of s e ≡ f
    pair_is e f he hf r = go (ℕ_discrete f (pair_of s e))
      where
        go : Dec (f ≡ pair_of s e) → pair_of s e ≡ f
        go (yes q) = sym q
        go (no d) =
            let p = pair_there s e (all e he) in
            let b = twice_bad s f (pair_of s e) hf p.0 d (reverses_same s e f (pair_of s e) r p.1) in
            let a = all f hf in
            let z : ◌≡◌ {A = ℕ} 0 1 = cc in
            absurd (omega arith)

module _ (B : Block) (edges : B.keys ≡ Edges) (all : AllPaired B.file.bytes.now) where
  -- where f leads back to a halfedge of the block, each is the other's pair
  pub found_pair : (f : ℕ) → f < 3 * B.file.triangles → back_at B f < B.count → (pair_of B.file.bytes.now f ≡ B.lo + back_at B f) × (pair_of B.file.bytes.now (B.lo + back_at B f) ≡ f)
  found_pair f h l =
      let hf : f < halfedge_count B.file.bytes.now = omega (arith, B.file.counted) in
      let he : B.lo + back_at B f < halfedge_count B.file.bytes.now = omega (arith, B.within, B.file.counted) in
      let r = back_reverse B edges f l in
      (pair_is B.file.bytes.now all f (B.lo + back_at B f) hf he (reverse_back B.file.bytes.now (B.lo + back_at B f) f r), pair_is B.file.bytes.now all (B.lo + back_at B f) f he hf r)

  -- where f's pair is the block's, f leads back to it
  pub pair_found : (f k : ℕ) → f < 3 * B.file.triangles → k < B.count → pair_of B.file.bytes.now f ≡ B.lo + k → back_at B f ≡ k
  pair_found f k h l e =
      let hf : f < halfedge_count B.file.bytes.now = omega (arith, B.file.counted) in
      let he : B.lo + k < halfedge_count B.file.bytes.now = omega (arith, B.within, B.file.counted) in
      let r : is_reverse B.file.bytes.now f (B.lo + k) ≡ true = rw e at (pair_there B.file.bytes.now f (all f hf)).1 in
      back_is B edges k f l (reverse_back B.file.bytes.now f (B.lo + k) r) (all (B.lo + k) he)

  -- ---- one turn: halfedge f
  pair_twice : (e : ℕ) → e < halfedge_count B.file.bytes.now → (pair_of B.file.bytes.now e < halfedge_count B.file.bytes.now) × (pair_of B.file.bytes.now (pair_of B.file.bytes.now e) ≡ e)
  pair_twice e h =
      let p = (pair_there B.file.bytes.now e (all e h)).0 in
      (p, pair_back B.file.bytes.now e h (all e h) (all (pair_of B.file.bytes.now e) p))

  -- what is done with f is done before, or is f or its pair
  done_before : (f e : ℕ) → Done B (f + 1) e → Done B f e ⊎ (((e ≡ f) × (pair_of B.file.bytes.now e < B.lo + B.count)) ⊎ ((pair_of B.file.bytes.now e ≡ f) × (e < B.lo + B.count)))
  done_before f e (inl d) = inl (inl d)
  done_before f e (inr (inl d)) = go (eq-or-lt_of_le (let l : pair_of B.file.bytes.now e ≤ f = omega (arith, d.1) in l))
    where
      go : (pair_of B.file.bytes.now e ≡ f) ⊎ (pair_of B.file.bytes.now e < f) → Done B f e ⊎ (((e ≡ f) × (pair_of B.file.bytes.now e < B.lo + B.count)) ⊎ ((pair_of B.file.bytes.now e ≡ f) × (e < B.lo + B.count)))
      go (inl q) = inr (inr (q, d.0))
      go (inr l) = inl (inr (inl (d.0, l)))
  done_before f e (inr (inr d)) = go (eq-or-lt_of_le (let l : e ≤ f = omega (arith, d.1) in l))
    where
      go : (e ≡ f) ⊎ (e < f) → Done B f e ⊎ (((e ≡ f) × (pair_of B.file.bytes.now e < B.lo + B.count)) ⊎ ((pair_of B.file.bytes.now e ≡ f) × (e < B.lo + B.count)))
      go (inl q) = inr (inl (q, d.0))
      go (inr l) = inl (inr (inr (d.0, l)))

  module _ (f : ℕ) (h : f < 3 * B.file.triangles) (L : List ℤ) (old : Paired B.file.bytes.now (Done B f) L) {k : ℕ} (back : k ≡ back_at B f) where
    -- f leads back to no halfedge of the block: nothing more is to be written
    pub pairs_none : B.count ≤ k → Paired B.file.bytes.now (Done B (f + 1)) L
    pairs_none none e he d = go (done_before f e d)
      where
        -- a pair of f that is below the block's end is below the block
        low : (v : ℕ) → pair_of B.file.bytes.now f ≡ v → v < B.lo + B.count → v < B.lo
        low v q l = pick (dec_lt v B.lo)
          where
            pick : Dec (v < B.lo) → v < B.lo
            pick (yes y) = y
            pick (no y) = let t : pair_of B.file.bytes.now f ≡ B.lo + (v - B.lo) = q ∙ (omega arith) in let w = pair_found f (v - B.lo) h (omega arith) t in absurd (omega arith)

        go : Done B f e ⊎ (((e ≡ f) × (pair_of B.file.bytes.now e < B.lo + B.count)) ⊎ ((pair_of B.file.bytes.now e ≡ f) × (e < B.lo + B.count))) → get_or L (e * halfedge_stride + 2) (pos 0) ≡ pos (pair_of B.file.bytes.now e)
        go (inl y) = old e he y
        go (inr (inl y)) = old e he (inl (inr (low (pair_of B.file.bytes.now e) (ap (pair_of B.file.bytes.now) (sym y.0)) y.1)))
        go (inr (inr y)) = old e he (inl (inl (low e (ap (pair_of B.file.bytes.now) (sym y.0) ∙ (pair_twice e he).1) y.1)))

    -- it leads back to one: each is written as the other's pair
    pub pairs_both : k < B.count → 3 * B.file.triangles * halfedge_stride ≤ length L → {v w : ℤ} → v ≡ pos (B.lo + k) → w ≡ pos f → Paired B.file.bytes.now (Done B (f + 1)) (set (set L (f * halfedge_stride + 2) v) ((B.lo + k) * halfedge_stride + 2) w)
    pairs_both some long {v} {w} p q e he d = go (ℕ_discrete e (B.lo + k)) (ℕ_discrete e f)
      where
        M : List ℤ
        M = set L (f * halfedge_stride + 2) v

        both : (pair_of B.file.bytes.now f ≡ B.lo + k) × (pair_of B.file.bytes.now (B.lo + k) ≡ f)
        both = rw back (found_pair f h (omega arith))

        rest : (e ≡ B.lo + k → ⊥) → (e ≡ f → ⊥) → Done B f e ⊎ (((e ≡ f) × (pair_of B.file.bytes.now e < B.lo + B.count)) ⊎ ((pair_of B.file.bytes.now e ≡ f) × (e < B.lo + B.count))) → get_or L (e * halfedge_stride + 2) (pos 0) ≡ pos (pair_of B.file.bytes.now e)
        rest x y (inl z) = old e he z
        rest x y (inr (inl z)) = absurd (y z.0)
        rest x y (inr (inr z)) = absurd (x (sym (pair_twice e he).1 ∙ ap (pair_of B.file.bytes.now) z.0 ∙ both.0))

        go : Dec (e ≡ B.lo + k) → Dec (e ≡ f) → get_or (set M ((B.lo + k) * halfedge_stride + 2) w) (e * halfedge_stride + 2) (pos 0) ≡ pos (pair_of B.file.bytes.now e)
        go (yes x) y = rw x (get_or-set_same M ((B.lo + k) * halfedge_stride + 2) w (pos 0) (rw (length-set L (f * halfedge_stride + 2) v) (omega (arith, B.within))) ∙ q ∙ ap pos (sym both.1))
        go (no x) (yes y) =
            get_or-set_other M ((B.lo + k) * halfedge_stride + 2) (e * halfedge_stride + 2) w (pos 0) (λ z. x (omega arith))
            ∙ rw y (get_or-set_same L (f * halfedge_stride + 2) v (pos 0) (omega arith) ∙ p ∙ ap pos (sym both.0))
        go (no x) (no y) =
            get_or-set_other M ((B.lo + k) * halfedge_stride + 2) (e * halfedge_stride + 2) w (pos 0) (λ z. x (omega arith))
            ∙ get_or-set_other L (f * halfedge_stride + 2) (e * halfedge_stride + 2) v (pos 0) (λ z. y (omega arith))
            ∙ rest x y (done_before f e d)

  -- ---- the block before and after
  pub pairs_start : (m : ℕ) → m ≤ B.lo → (L : List ℤ) → Paired B.file.bytes.now (Below B.file.bytes.now B.lo) L → Paired B.file.bytes.now (Done B m) L
  pairs_start m h L old e he (inl d) = old e he d
  pairs_start m h L old e he (inr (inl d)) = old e he (inr (omega (arith, d.1)))
  pairs_start m h L old e he (inr (inr d)) = old e he (inl (omega (arith, d.1)))

  pub pairs_end : (L : List ℤ) → Paired B.file.bytes.now (Done B (3 * B.file.triangles)) L → Paired B.file.bytes.now (Below B.file.bytes.now (B.lo + B.count)) L
  pairs_end L old e he (inl d) = old e he (inr (inl (d, omega (arith, (pair_twice e he).0, B.file.counted))))
  pairs_end L old e he (inr d) = old e he (inr (inr (d, omega (arith, B.file.counted))))

-- halfedge f is done, in a list as long
pub can_next : {B : Block} {T G : List ℕ} {f : ℕ} {L L' : List ℤ} → CanPair B T G f L → Paired B.file.bytes.now (Done B (f + 1)) L' → length L' ≡ length L → CanPair B T G (f + 1) L'
can_next h p l =
    record {
      edges_keys = h.edges_keys;
      indexed = h.indexed;
      all = h.all;
      paired = p;
      room = omega (arith, h.room);
    }

-- ---- all blocks are done
module _ (s : List ℕ) (n : ℕ) (counted : n ≡ halfedge_count s) (L : List ℤ) where
  number_is : (e k : ℕ) → e < n → k < halfedge_stride → Starts s n L → EndsRows s n L → Paired s (Below s n) L → get_or L (e * halfedge_stride + k) (pos 0) ≡ pos (halfedge_number s e k)
  unfolding halfedge_number
  number_is e zero h l a b c = let z : e * halfedge_stride + 0 ≡ e * halfedge_stride = omega arith in rw z (a e h)
  number_is e (suc zero) h l a b c = (b e h).0
  number_is e (suc (suc zero)) h l a b c = c e (omega arith) (inl h)
  number_is e (suc (suc (suc zero))) h l a b c = (b e h).1
  number_is e (suc (suc (suc (suc k)))) h l a b c = absurd (omega arith)

  pub item_is : Starts s n L → EndsRows s n L → Paired s (Below s n) L → (i : ℕ) → i < n * halfedge_stride → get_or L i (pos 0) ≡ halfedge_item s i
  unfolding halfedge_item
  item_is a b c i h = let z : i ≡ i / halfedge_stride * halfedge_stride + i % halfedge_stride = omega arith in ap (λ (j : ℕ). get_or L j (pos 0)) z ∙ number_is (i / halfedge_stride) (i % halfedge_stride) (omega arith) (omega arith) a b c
