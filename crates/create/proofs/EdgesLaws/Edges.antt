-- The list `smoothness` says what the Rust's map `edges` says: `same_map`. Assumes nothing.
use Prim.Native.Nat.{ℕ, ◌*◌, ◌<◌}
use native.Mathlib.Decide.{ℕ_discrete}
use native.Mathlib.Omega.{arith}
use mathlib.Core.Path.{◌≡◌, refl, sym, ap, ◌∙◌, subst}
use mathlib.Core.Logic.{◌≢◌}
use mathlib.Core.List.{List, [], ◌∷◌, foldl}
use mathlib.Core.Bool.{Bool, true, false, cond, not, ◌&&◌, ◌||◌, beq}
use lib.ListN.{length, set, replicate, length-set, length-replicate, get_or-replicate}
use lib.Seq.{get_or-set_same, get_or-set_other}
use lib.IntN.{ℤ, pos}
use lib.Dec.{eqb, ltb}
use lib.Ieee.{Float, nan, inf, fin, up, down, lt, le, eq, ne, of_bits}
use borrow.Author.Tests.{eq-eqb, ne_eqb, eqb-true, eqb-false, lt-ltb, ltb-false}
use Rattle.float.specs.Ops.{one}
use Rattle.float.specs.F64.{min_of}
use Rattle.mesh.specs.Mesh.{paired_halfedge, is_forward, Halfedges}
use Rattle.std.proofs.lemmas.Bool.{both_ways}
use Rattle.questions.specs.Questions.{sign_clear}
use Rattle.mesh.specs.Sound.{Sound}
use Rattle.mesh.proofs.Pairs.{one_forward}
use Rattle.create.specs.declared.sharp.Smoothness.{Smoothness}
use Rattle.create.specs.Sharp.EntrySmoothness.{EntriesIn, smoothness_at, add_entry, add_smoothness, entry_smoothness}
use Rattle.create.specs.Edges.Edges.{side_of, pair_of, Entry, absent, present, and_modify, or_insert, modify, key_of, insert, sharpened_edges, edges_of}
use Rattle.create.specs.Edges.Smoothness.{smoothness, pair_smoothness, is_crease, pair_at, SameMap}
use Rattle.create.proofs.EdgesLaws.Boundaries.{Each, Fits, each_sharpened, take_sharpened}

-- ---- what question 10 gives: an entry that is not ignored is below 1

below : (a b : ℕ) → (ltb a b || (eqb a b && (beq false false || eqb a 0))) ≡ false → ltb b a ≡ true
below a b e = go (ltb a b) (eqb a b) refl refl e
  where
    go : (t u : Bool) → ltb a b ≡ t → eqb a b ≡ u → (t || (u && (beq false false || eqb a 0))) ≡ false → ltb b a ≡ true
    go true u q r z = absurd (both_ways _ z refl)
    go false true q r z = absurd (both_ways _ z refl)
    go false false q r z = lt-ltb b a (let l = ltb-false a b q in let d = eqb-false a b r in omega arith)

below_one : (s : Float) → sign_clear s ≡ true → le one s ≡ false → lt s one ≡ true
unfolding sign_clear le lt eq of_bits
below_one nan c e = absurd (both_ways _ refl c)
below_one (inf true) c e = refl
below_one (inf false) c e = absurd (both_ways _ e refl)
below_one (fin true m k) c e = absurd (both_ways _ refl c)
below_one (fin false m k) c e = below (1 * up (pos 0) * down k) (m * up k * down (pos 0)) e

-- ---- one entry for either side

-- the least of 1 and an entry below 1 is the entry
min_one : (s : Float) → lt s one ≡ true → min_of one s ≡ s
unfolding min_of ne eq of_bits
min_one s e = rw e refl

min_below : (a s : Float) → lt a one ≡ true → lt s one ≡ true → lt (min_of a s) one ≡ true
unfolding min_of
min_below a s p q = go (ne a a) (lt s a)
  where
    go : (b c : Bool) → lt (cond b s (cond c s a)) one ≡ true
    go true c = q
    go false true = q
    go false false = p

or_left : (a b : Bool) → a ≡ true → (a || b) ≡ true
or_left a b e = rw e

or_right : (a b : Bool) → b ≡ true → (a || b) ≡ true
or_right true b e = refl
or_right false b e = e

or_map : (a a' b b' : Bool) → (a ≡ true → a' ≡ true) → (b ≡ true → b' ≡ true) → (a || b) ≡ true → (a' || b') ≡ true
or_map true a' b b' f g e = or_left a' b' (f refl)
or_map false a' b b' f g e = or_right a' b' (g e)

-- What the map has of the edge of f and g, and the smoothness of its two sides: an absent edge has 1 on both, any other a side below 1.
abbrev Says : ℕ → ℕ → Entry → Float → Float → Type 0
Says f g absent x y = (x ≡ one) × (y ≡ one)
Says f g (present q) x y = (q ≡ pair_of (side_of f x) (side_of g y)) × ((lt x one || lt y one) ≡ true)

module _ (f g : ℕ) where
  -- an entry for f
  says_own : (m : Entry) (x y s : Float) → lt s one ≡ true → Says f g m x y → Says f g (modify true (side_of f s) g m) (min_of x s) y
  unfolding modify or_insert and_modify
  says_own absent x y s l d =
      let least : min_of x s ≡ s = ap (λ (z : Float). min_of z s) d.0 ∙ min_one s l in
      rw (least, d.1) (refl, or_left (lt s one) (lt one one) l)
  says_own (present q) x y s l d = (ap (and_modify true s) d.0, or_map (lt x one) (lt (min_of x s) one) (lt y one) (lt y one) (λ p. min_below x s p l) (λ p. p) d.1)

  -- and one for g
  says_other : (m : Entry) (x y s : Float) → lt s one ≡ true → Says f g m x y → Says f g (modify false (side_of g s) f m) x (min_of y s)
  unfolding modify or_insert and_modify
  says_other absent x y s l d =
      let least : min_of y s ≡ s = ap (λ (z : Float). min_of z s) d.1 ∙ min_one s l in
      rw (least, d.0) (refl, or_right (lt one one) (lt s one) l)
  says_other (present q) x y s l d = (ap (and_modify false s) d.0, or_map (lt x one) (lt x one) (lt y one) (lt (min_of y s) one) (λ p. p) (λ p. min_below y s p l) d.1)

-- ---- one entry, of all edges

module _ {H : Halfedges} {n p : ℕ} (sound : Sound H n p) where
  -- the map M and the list S
  record Agree (M : ℕ → Entry) (S : List Float) : Type 0 where
    places : length S ≡ n
    says : (f : ℕ) → f < n → is_forward H f ≡ true → Says f (paired_halfedge H f) (M f) (smoothness_at S f) (smoothness_at S (paired_halfedge H f))
    keys : (f : ℕ) → (f < n → is_forward H f ≡ true → ⊥) → M f ≡ absent

  backward : (f : ℕ) → f < n → is_forward H f ≡ true → is_forward H (paired_halfedge H f) ≡ false
  backward f l v = one_forward sound f l ∙ ap not v

  key_in : (e : ℕ) → e < n → (key_of H e < n) × (is_forward H (key_of H e) ≡ true)
  unfolding key_of
  key_in e l = go (is_forward H e) refl
    where
      go : (b : Bool) → is_forward H e ≡ b → (cond b e (paired_halfedge H e) < n) × (is_forward H (cond b e (paired_halfedge H e)) ≡ true)
      go true w = (l, w)
      go false w = (sound.paired_below e l, one_forward sound e l ∙ ap not w)

  module _ (M : ℕ → Entry) (S : List Float) (a : Agree M S) (e : ℕ) (e_in : e < n) (s : Float) (below : lt s one ≡ true) where
    abbrev S' : List Float
    S' = set S e (min_of (smoothness_at S e) s)

    -- what the map has for f after the entry, where it has m before
    abbrev after : Bool → Entry → Entry
    after forward m = modify forward (side_of e s) (paired_halfedge H e) m

    apart : (g : ℕ) → g ≢ e → smoothness_at S' g ≡ smoothness_at S g
    apart g q = get_or-set_other S e g (min_of (smoothness_at S e) s) nan q

    at : smoothness_at S' e ≡ min_of (smoothness_at S e) s
    at = get_or-set_same S e (min_of (smoothness_at S e) s) nan (omega (arith, a.places))

    move : (f g : ℕ) (m : Entry) (x x' y y' : Float) → x ≡ x' → y ≡ y' → Says f g m x' y' → Says f g m x y
    move f g m x x' y y' q r d = subst (λ (z : Float). Says f g m z y) (sym q) (subst (λ (z : Float). Says f g m x' z) (sym r) d)

    module _ (f : ℕ) (l : f < n) (v : is_forward H f ≡ true) where
      abbrev g : ℕ
      g = paired_halfedge H f

      -- e is forward
      own : is_forward H e ≡ true → Dec (f ≡ e) → Says f g (cond (eqb f e) (after true (M f)) (M f)) (smoothness_at S' f) (smoothness_at S' g)
      own w (yes q) =
          let far : g ≢ e = λ z. both_ways _ (backward f l v) (ap (λ (k : ℕ). is_forward H k) z ∙ w) in
          let here : smoothness_at S' f ≡ min_of (smoothness_at S f) s = subst (λ (k : ℕ). smoothness_at S' k ≡ min_of (smoothness_at S k) s) (sym q) at in
          let same : Says f g (modify true (side_of f s) g (M f)) (smoothness_at S' f) (smoothness_at S' g) = move f g (modify true (side_of f s) g (M f)) _ _ _ _ here (apart g far) (says_own f g (M f) _ _ s below (a.says f l v)) in
          rw (eq-eqb f e q) (subst (λ (k : ℕ). Says f g (modify true (side_of k s) (paired_halfedge H k) (M f)) (smoothness_at S' f) (smoothness_at S' g)) q same)
      own w (no q) =
          let far : g ≢ e = λ z. both_ways _ (backward f l v) (ap (λ (k : ℕ). is_forward H k) z ∙ w) in
          rw (ne_eqb f e q) (move f g (M f) _ _ _ _ (apart f q) (apart g far) (a.says f l v))

      -- its pair is
      other : is_forward H e ≡ false → Dec (f ≡ paired_halfedge H e) → Says f g (cond (eqb f (paired_halfedge H e)) (after false (M f)) (M f)) (smoothness_at S' f) (smoothness_at S' g)
      other w (yes q) =
          let near : f ≢ e = λ z. both_ways _ (ap (λ (k : ℕ). is_forward H k) z ∙ w) v in
          let is : g ≡ e = ap (λ (k : ℕ). paired_halfedge H k) q ∙ sound.paired_back e e_in in
          let there : smoothness_at S' g ≡ min_of (smoothness_at S g) s = subst (λ (k : ℕ). smoothness_at S' k ≡ min_of (smoothness_at S k) s) (sym is) at in
          let same : Says f g (modify false (side_of g s) f (M f)) (smoothness_at S' f) (smoothness_at S' g) = move f g (modify false (side_of g s) f (M f)) _ _ _ _ (apart f near) there (says_other f g (M f) _ _ s below (a.says f l v)) in
          rw (eq-eqb f (paired_halfedge H e) q) (subst (λ (k : ℕ). Says f g (modify false (side_of e s) k (M f)) (smoothness_at S' f) (smoothness_at S' g)) q (subst (λ (k : ℕ). Says f g (modify false (side_of k s) f (M f)) (smoothness_at S' f) (smoothness_at S' g)) is same))
      other w (no q) =
          let near : f ≢ e = λ z. both_ways _ (ap (λ (k : ℕ). is_forward H k) z ∙ w) v in
          let far : g ≢ e = λ z. q (sym (sound.paired_back f l) ∙ ap (λ (k : ℕ). paired_halfedge H k) z) in
          rw (ne_eqb f (paired_halfedge H e) q) (move f g (M f) _ _ _ _ (apart f near) (apart g far) (a.says f l v))

      entry_says : Says f g (cond (eqb f (key_of H e)) (after (is_forward H e) (M f)) (M f)) (smoothness_at S' f) (smoothness_at S' g)
      unfolding key_of
      entry_says = go (is_forward H e) refl
        where
          go : (b : Bool) → is_forward H e ≡ b → Says f g (cond (eqb f (cond b e (paired_halfedge H e))) (after b (M f)) (M f)) (smoothness_at S' f) (smoothness_at S' g)
          go true w = own w (ℕ_discrete f e)
          go false w = other w (ℕ_discrete f (paired_halfedge H e))

    entry_key : (f : ℕ) → (f < n → is_forward H f ≡ true → ⊥) → cond (eqb f (key_of H e)) (after (is_forward H e) (M f)) (M f) ≡ absent
    entry_key f h = go (eqb f (key_of H e)) refl
      where
        go : (b : Bool) → eqb f (key_of H e) ≡ b → cond b (after (is_forward H e) (M f)) (M f) ≡ absent
        go true q = let z : f ≡ key_of H e = eqb-true f (key_of H e) q in absurd (h (rw z (key_in e e_in).0) (rw z (key_in e e_in).1))
        go false q = a.keys f h

  -- an entry that is ignored, or below 1
  entry_agrees : (M : ℕ → Entry) (S : List Float) → Agree M S → (x : Smoothness) → Fits n x → Agree (insert H M x) (add_smoothness S x)
  unfolding insert add_smoothness add_entry
  entry_agrees M S a x h = go (le one x.smoothness) refl
    where
      e : ℕ
      e = x.halfedge

      s : Float
      s = x.smoothness

      go : (b : Bool) → le one s ≡ b → Agree (λ f. cond b (M f) (cond (eqb f (key_of H e)) (modify (is_forward H e) x (paired_halfedge H e) (M f)) (M f))) (cond b S (set S e (min_of (smoothness_at S e) s)))
      go true q = a
      go false q =
          record {
            places = length-set S e (min_of (smoothness_at S e) s) ∙ a.places;
            says = entry_says M S a e h.0 s (below_one s h.1 q);
            keys = entry_key M S a e h.0 s (below_one s h.1 q);
          }

  -- ---- all entries

  agree_first : Agree (λ f. absent) (replicate n one)
  agree_first =
      record {
        places = length-replicate n one;
        says = λ f l v. (get_or-replicate n f one nan l, get_or-replicate n (paired_halfedge H f) one nan (sound.paired_below f l));
        keys = λ f l. refl;
      }

  agree_all : (l : List Smoothness) → Each (Fits n) l → (M : ℕ → Entry) (S : List Float) → Agree M S → Agree (foldl (insert H) M l) (foldl add_smoothness S l)
  agree_all [] h M S a = a
  agree_all (x ∷ l) h M S a = agree_all l h.1 (insert H M x) (add_smoothness S x) (entry_agrees M S a x h.0)

-- ---- the claim

same_entry : (f g : ℕ) (m : Entry) (x y : Float) → Says f g m x y → m ≡ cond (lt x one || lt y one) (present (pair_of (side_of f x) (side_of g y))) absent
unfolding lt of_bits
same_entry f g absent x y d = rw (d.0, d.1) refl
same_entry f g (present q) x y d = rw (d.0, d.1) refl

-- On a sound mesh, where each entry names a halfedge (question 9) and is a number with a clear sign bit (question 10).
pub same_map : {H : Halfedges} {n p : ℕ} → Sound H n p → (R : List ℤ) (flat : ℕ → Bool) (E : List Smoothness) → EntriesIn E n → SameMap H (edges_of H (sharpened_edges H R flat E n)) (smoothness H R flat (entry_smoothness E n) n) n
unfolding is_crease edges_of entry_smoothness
same_map {H} {n} sound R flat E fits f l = go (is_forward H f) refl
  where
    M : ℕ → Entry
    M = edges_of H (sharpened_edges H R flat E n)

    S : List Float
    S = smoothness H R flat (entry_smoothness E n) n

    a : Agree sound M S
    a = subst (Agree sound M) (take_sharpened H R flat (replicate n one) E n sound.triangles) (agree_all sound (sharpened_edges H R flat E n) (each_sharpened H R flat n E fits) (λ k. absent) (replicate n one) (agree_first sound))

    go : (b : Bool) → is_forward H f ≡ b → M f ≡ cond (b && (lt (smoothness_at S f) one || lt (pair_smoothness H S f) one)) (present (pair_at H S f)) absent
    go true w = same_entry f (paired_halfedge H f) (M f) _ _ (a.says f l w)
    go false w = a.keys f (λ k v. both_ways _ w v)
