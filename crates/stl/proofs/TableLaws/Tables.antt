-- What a table that holds the first m places of a block finds, and how the next place enters it. Assumes nothing.
use Prim.Native.Nat.{ℕ, zero, suc, ◌+◌, ◌*◌, ◌≤◌, ◌<◌}
use native.Mathlib.Omega.{arith}
use native.Mathlib.Nat.{eq-or-lt_of_le}
use mathlib.Core.Path.{◌≡◌, refl, sym, ◌∙◌}
use mathlib.Core.List.{List}
use mathlib.Core.Logic.{◌⊎◌, inl, inr}
use mathlib.Core.Bool.{Bool, true, false, not}
use borrow.Author.Tests.{eqb-true, eqb-false}
use lib.Dec.{eqb}
use lib.ListN.{get_or, length, set, length-set, replicate, length-replicate}
use lib.Seq.{get_or-set_same, get_or-set_other}
use Rattle.std.specs.Prelude.{Result, Ok, Err}
use Rattle.std.specs.Result.{result_unwrap_or}
use Rattle.common.proofs.Lowest.{lowest_is, lowest_within, lowest_all}
use Rattle.stl.specs.Table.Size.{block_size, roots, slots}
use Rattle.stl.specs.Table.Keys.{key_at, has_key, first_at}
use Rattle.stl.specs.Table.Tree.{root_of, tag_of, tag_at, child_of, Ends, Indexed}
use Rattle.stl.specs.declared.table.Key.{Key}
use Rattle.stl.specs.declared.table.Path.{Path}
use Rattle.stl.specs.declared.table.block.Block.{Block}
use Rattle.stl.proofs.TableLaws.Walks.{walk_same, walk_hit, walk_empty, walk_below, walk_slot, fill_kept, fill_new}
use Rattle.stl.proofs.TableLaws.SameKey.{key_equal, key_same}
use Rattle.stl.proofs.TableLaws.Looks.{start_slot, step_slot}

at_same : (i j : ℕ) → ◌≡◌ {A = Result ℕ ℕ} (Ok i) (Ok j) → i ≡ j
at_same i j e = cc

not_both : (i j : ℕ) → ◌≡◌ {A = Result ℕ ℕ} (Err i) (Ok j) → ⊥
not_both i j e = let z : ◌≡◌ {A = ℕ} 0 1 = cc in omega arith

module _ {B : Block} {m : ℕ} {T G : List ℕ} (ix : Indexed B m T G) where
  -- the tag of the next place is put down
  pub tag_put : (x : ℕ) → Indexed B m T (set G m x)
  tag_put x =
      record {
        size = ix.size;
        within = ix.within;
        below = ix.below;
        tags = omega (arith, length-set G m x, ix.tags);
        tagged = λ k l. get_or-set_other G m k x 0 (λ e. omega arith) ∙ ix.tagged k l;
        rising = ix.rising;
        complete = ix.complete;
      }

  -- the list has it then
  pub tag_new : {key : Key} {at : Path} {x : ℕ} → m < B.count → key ≡ key_at B.file.bytes.now B.keys (B.lo + m) → at ≡ root_of key → x ≡ tag_of at → get_or (set G m x) m 0 ≡ tag_at B m
  tag_new {x} h e r t = get_or-set_same G m x 0 (omega (arith, ix.tags)) ∙ rw (t, r, e)

  -- a node with the key of two corners: the walk of that key ends at it or at a lower one
  found_at : (key : Key) (k : ℕ) → k < m → has_key B key k ≡ true → (j : ℕ) × (j ≤ k) × Ends B T key (Ok j)
  found_at key k l h = let e : key_at B.file.bytes.now B.keys (B.lo + k) ≡ key = key_equal _ _ h in rw e at (ix.complete k l)

  pub find_at : (key : Key) (j : ℕ) → Ends B T key (Ok j) → j ≡ first_at B key m
  find_at key j w =
      sym (lowest_is (λ k. not (has_key B key k)) m j (walk_below T (child_of key) (has_key B key) m ix.below w) (rw (walk_hit T (child_of key) (has_key B key) w)) (λ k l. go k l (has_key B key k) refl))
    where
      go : (k : ℕ) → k < j → (b : Bool) → has_key B key k ≡ b → not (has_key B key k) ≡ true
      go k l true e =
          let below : j < m = walk_below T (child_of key) (has_key B key) m ix.below w in
          let f = found_at key k (omega arith) e in
          let q : f.0 ≡ j = at_same f.0 j (walk_same T (child_of key) (has_key B key) w f.2) in
          absurd (omega (arith, f.1))
      go k l false e = rw e

  pub find_none : (key : Key) (i : ℕ) → Ends B T key (Err i) → m ≡ first_at B key m
  find_none key i w =
      let low = lowest_within (λ k. not (has_key B key k)) m in
      let high = lowest_all (λ k. not (has_key B key k)) m (λ k l. go k l (has_key B key k) refl) in
      omega arith
    where
      go : (k : ℕ) → k < m → (b : Bool) → has_key B key k ≡ b → not (has_key B key k) ≡ true
      go k l true e =
          let f = found_at key k l e in
          absurd (not_both i f.0 (walk_same T (child_of key) (has_key B key) f.2 w))
      go k l false e = rw e

  module _ (small : m < B.count) where
    new_tagged : get_or G m 0 ≡ tag_at B m → (k : ℕ) → k < m + 1 → get_or G k 0 ≡ tag_at B k
    new_tagged t k l = go (eq-or-lt_of_le (let h : k ≤ m = omega arith in h))
      where
        go : (k ≡ m) ⊎ (k < m) → get_or G k 0 ≡ tag_at B k
        go (inl e) = rw e t
        go (inr h) = ix.tagged k h

    -- the key of place lo + m is there already
    pub enter_found : get_or G m 0 ≡ tag_at B m → (j : ℕ) → Ends B T (key_at B.file.bytes.now B.keys (B.lo + m)) (Ok j) → Indexed B (m + 1) T G
    enter_found t j w =
        record {
          size = ix.size;
          within = omega arith;
          below = λ i. omega (arith, ix.below i);
          tags = ix.tags;
          tagged = new_tagged t;
          rising = ix.rising;
          complete = λ k l. go k (eq-or-lt_of_le (let h : k ≤ m = omega arith in h));
        }
      where
        go : (k : ℕ) → (k ≡ m) ⊎ (k < m) → (i : ℕ) × (i ≤ k) × Ends B T (key_at B.file.bytes.now B.keys (B.lo + k)) (Ok i)
        go k (inl e) = let q = key_at B.file.bytes.now B.keys (B.lo + m) in let b = walk_below T (child_of q) (has_key B q) m ix.below w in rw e (j, (omega arith), w)
        go k (inr l) = ix.complete k l

    -- it is new, and i is the empty slot where it belongs
    module _ (i : ℕ) (w : Ends B T (key_at B.file.bytes.now B.keys (B.lo + m)) (Err i)) where
      low : i < roots + 2 * m
      low =
          let q = key_at B.file.bytes.now B.keys (B.lo + m) in
          let h : (root_of q).slot < roots + 2 * m = omega (arith, start_slot q) in
          walk_slot T (child_of q) (has_key B q) m ix.below (roots + 2 * m) (λ k at l. step_slot q m k at l) h w

      pub enter_in : i < length T
      enter_in = omega (arith, low, ix.size, ix.within, B.small)

      free : get_or T i 0 ≡ 0
      free = let q = key_at B.file.bytes.now B.keys (B.lo + m) in walk_empty T (child_of q) (has_key B q) w

      -- a slot of the new table: the one that was filled, or as before
      slot_cases : (x : ℕ) → ((x ≡ i) × (get_or (set T i (m + 1)) x 0 ≡ m + 1)) ⊎ (get_or (set T i (m + 1)) x 0 ≡ get_or T x 0)
      slot_cases x = go (eqb x i) refl
        where
          go : (b : Bool) → eqb x i ≡ b → ((x ≡ i) × (get_or (set T i (m + 1)) x 0 ≡ m + 1)) ⊎ (get_or (set T i (m + 1)) x 0 ≡ get_or T x 0)
          go true e = let p : x ≡ i = eqb-true x i e in inl (p, rw p (get_or-set_same T i (m + 1) 0 enter_in))
          go false e = inr (get_or-set_other T i x (m + 1) 0 (eqb-false x i e))

      new_below : (x : ℕ) → get_or (set T i (m + 1)) x 0 ≤ m + 1
      new_below x = go (slot_cases x)
        where
          go : ((x ≡ i) × (get_or (set T i (m + 1)) x 0 ≡ m + 1)) ⊎ (get_or (set T i (m + 1)) x 0 ≡ get_or T x 0) → get_or (set T i (m + 1)) x 0 ≤ m + 1
          go (inl e) = omega (arith, e.1)
          go (inr e) = omega (arith, ix.below x)

      new_rising : (k b v : ℕ) → b ≤ 1 → get_or (set T i (m + 1)) (roots + 2 * k + b) 0 ≡ suc v → k < v
      new_rising k b v h e = go (slot_cases (roots + 2 * k + b))
        where
          go : ((roots + 2 * k + b ≡ i) × (get_or (set T i (m + 1)) (roots + 2 * k + b) 0 ≡ m + 1)) ⊎ (get_or (set T i (m + 1)) (roots + 2 * k + b) 0 ≡ get_or T (roots + 2 * k + b) 0) → k < v
          go (inl p) = omega (arith, p.0, p.1, low)
          go (inr p) = ix.rising k b v h (sym p ∙ e)

      pub enter_new : get_or G m 0 ≡ tag_at B m → Indexed B (m + 1) (set T i (m + 1)) G
      enter_new t =
          record {
            size = length-set T i (m + 1) ∙ ix.size;
            within = omega arith;
            below = new_below;
            tags = ix.tags;
            tagged = new_tagged t;
            rising = new_rising;
            complete = λ k l. go k (eq-or-lt_of_le (let h : k ≤ m = omega arith in h));
          }
        where
          go : (k : ℕ) → (k ≡ m) ⊎ (k < m) → (j : ℕ) × (j ≤ k) × Ends B (set T i (m + 1)) (key_at B.file.bytes.now B.keys (B.lo + k)) (Ok j)
          go k (inl e) =
              let q = key_at B.file.bytes.now B.keys (B.lo + m) in
              let c : suc m ≡ m + 1 = omega arith in
              rw e (m, (omega arith), rw c at (fill_new T (child_of q) (has_key B q) m (key_same (key_at B.file.bytes.now B.keys (B.lo + m))) enter_in w))
          go k (inr l) =
              let f = ix.complete k l in
              let q = key_at B.file.bytes.now B.keys (B.lo + k) in
              (f.0, f.1, fill_kept T (child_of q) (has_key B q) i (m + 1) free f.2)

-- the empty table
pub indexed_none : (B : Block) (T G : List ℕ) → length T ≡ slots → ((i : ℕ) → get_or T i 0 ≡ 0) → B.count ≤ length G → Indexed B 0 T G
indexed_none B T G l f g =
    record {
      size = l;
      within = omega arith;
      below = λ i. omega (arith, f i);
      tags = g;
      tagged = λ k h. absurd (omega arith);
      rising = λ k b v h e. absurd (omega (arith, f (roots + 2 * k + b)));
      complete = λ k h. absurd (omega arith);
    }

zeros : (n i : ℕ) → ◌≡◌ {A = ℕ} (get_or (replicate n 0) i 0) 0
zeros zero i = refl
zeros (suc n) zero = refl
zeros (suc n) (suc i) = zeros n i

pub indexed_zeros : (B : Block) → Indexed B 0 (replicate slots 0) (replicate block_size 0)
indexed_zeros B = indexed_none B (replicate slots 0) (replicate block_size 0) (length-replicate {A = ℕ} slots 0) (zeros slots) (omega (arith, length-replicate {A = ℕ} block_size 0, B.small))

-- the walk of a key that is another one, with an end that is another one
pub ended : (B : Block) (T : List ℕ) {key key' : Key} {r r' : Result ℕ ℕ} → key ≡ key' → r ≡ r' → Ends B T key r → Ends B T key' r'
ended B T e f w = rw (f, e) at w

-- the node that a walk found, or m
pub found_or : {B : Block} {m : ℕ} {T G : List ℕ} → Indexed B m T G → (key : Key) (r : Result ℕ ℕ) → Ends B T key r → result_unwrap_or r m ≡ first_at B key m
found_or ix key (Ok k) w = find_at ix key k w
found_or ix key (Err i) w = find_none ix key i w
