-- What an accepted answer says, and that nothing else is refused: a mesh is accepted exactly when it is sound and each list has its length, and so for each further question.
use Prim.Native.Nat.{ℕ, ◌%◌, ◌/◌, ◌≤◌, ◌<◌}
use native.Mathlib.Omega.{arith}
use mathlib.Core.Path.{◌≡◌, refl, sym, ap, ◌∙◌}
use mathlib.Core.Logic.{◌↔◌}
use mathlib.Core.List.{List}
use mathlib.Core.Bool.{Bool, true, false, not, ◌&&◌}
use borrow.Author.Tests.{ltb-true, ltb-false, leb-true, eqb-true, eqb-false, not-true, lt-ltb, le-ltb, le-leb, eq-eqb, ne_eqb}
use lib.ListN.{length, get_or}
use lib.IntN.{ℤ, pos}
use lib.Signed.{le_z}
use lib.Dec.{ltb, leb, eqb}
use lib.Ieee.{Float, nan}
use Rattle.mesh.specs.Mesh.{max_halfedges, max_points, no_index, start_vert, end_vert, paired_halfedge, prop_vert, ref_at, Halfedges}
use Rattle.common.specs.Lowest.{lowest}
use Rattle.questions.specs.Questions.{counts_fit, has_points, has_pair, is_mutual, is_opposite, is_joined, has_mesh, names_halfedge, has_clear_sign, is_flag, has_row, sign_clear}
use Rattle.questions.specs.Check.{Checked, refused, asked, each, ◌then◌, check_mesh, check_refs, check_entries, check_flags, check_rows}
use Rattle.mesh.specs.Sound.{Sound}
use Rattle.questions.specs.declared.Question.{Question}
use Rattle.questions.specs.declared.Question.TheVariants.{Counts, Lengths, Points, Pair, Mutual, Opposite, Joined, Mesh, Entry, Sign, Flag, Row}
use Rattle.std.specs.Prelude.{Ok, Err}
use Rattle.std.proofs.lemmas.Bool.{and_parts, and_from}
use Rattle.common.proofs.Lowest.{lowest_before, lowest_all}

-- ---- one answer after another
pub then_accepted : (a b : Checked) → (a then b) ≡ Ok tt → (a ≡ Ok tt) × (b ≡ Ok tt)
then_accepted (Ok tt) b e = (refl, e)
then_accepted (Err r) b e = let z : ◌≡◌ {A = ℕ} 0 1 = cc in absurd (omega arith)

pub accepted_then : {a b : Checked} → a ≡ Ok tt → b ≡ Ok tt → (a then b) ≡ Ok tt
accepted_then e f = rw (e, f)

pub asked_accepted : (q : Question) (place : ℕ) (b : Bool) → asked q place b ≡ Ok tt → b ≡ true
asked_accepted q place true e = refl
asked_accepted q place false e = let z : ◌≡◌ {A = ℕ} 0 1 = cc in absurd (omega arith)

accepted_asked : (q : Question) (place : ℕ) {b : Bool} → b ≡ true → asked q place b ≡ Ok tt
accepted_asked q place e = rw e

module _ (q : Question) (t : ℕ → Bool) (m : ℕ) where
  pub each_accepted : each q t m ≡ Ok tt → (k : ℕ) → k < m → t k ≡ true
  each_accepted a k h = go (ltb (lowest t m) m) refl
    where
      go : (b : Bool) → ltb (lowest t m) m ≡ b → t k ≡ true
      go true e = let r : refused q (lowest t m) ≡ Ok tt = rw e at a in let z : ◌≡◌ {A = ℕ} 0 1 = cc in absurd (omega arith)
      go false e = lowest_before t m k (omega (arith, ltb-false (lowest t m) m e))

  pub accepted_each : ((k : ℕ) → k < m → t k ≡ true) → each q t m ≡ Ok tt
  accepted_each f = rw (le-ltb (lowest t m) m (lowest_all t m f))

-- ---- question 1
pub counts_fit_lem : (n p : ℕ) → counts_fit n p ≡ true → (n % 3 ≡ 0) × (n ≤ max_halfedges) × (p ≤ max_points)
counts_fit_lem n p e =
    let a = and_parts (eqb (n % 3) 0 && leb n max_halfedges) (leb p max_points) e in
    let b = and_parts (eqb (n % 3) 0) (leb n max_halfedges) a.0 in
    (eqb-true _ _ b.0, leb-true _ _ b.1, leb-true _ _ a.1)

-- ---- the questions 3 and 6
module _ (H : Halfedges) (p e : ℕ) where
  points : has_points H p e ≡ true → (start_vert H e < p) × (end_vert H e < p)
  points a = let q = and_parts _ _ a in (ltb-true _ _ q.0, ltb-true _ _ q.1)

  opposite : is_opposite H e ≡ true → (start_vert H e ≡ end_vert H e → ⊥) × (start_vert H (paired_halfedge H e) ≡ end_vert H e) × (end_vert H (paired_halfedge H e) ≡ start_vert H e)
  opposite a =
      let q = and_parts _ _ a in
      let d = and_parts _ _ q.0 in
      (eqb-false _ _ (not-true _ d.0), eqb-true _ _ d.1, eqb-true _ _ q.1)

-- ---- the questions 1 to 7; `lengths` is the answer to question 2

-- a mesh that is accepted is sound, and the lists that the call is lent have their lengths
pub accepted : (H : Halfedges) (n p : ℕ) (lengths : Bool) → check_mesh H n p lengths ≡ Ok tt → (lengths ≡ true) × Sound H n p
unfolding check_mesh
accepted H n p lengths a =
    let a₇ = then_accepted _ (each Joined (is_joined H) n) a in
    let a₆ = then_accepted _ (each Opposite (is_opposite H) n) a₇.0 in
    let a₅ = then_accepted _ (each Mutual (is_mutual H) n) a₆.0 in
    let a₄ = then_accepted _ (each Pair (has_pair H n) n) a₅.0 in
    let a₃ = then_accepted _ (each Points (has_points H p) n) a₄.0 in
    let a₂ = then_accepted (asked Counts 0 (counts_fit n p)) (asked Lengths 0 lengths) a₃.0 in
    let counts = counts_fit_lem n p (asked_accepted Counts 0 _ a₂.0) in
    let yes₃ = each_accepted Points (has_points H p) n a₃.1 in
    let yes₆ = each_accepted Opposite (is_opposite H) n a₆.1 in (
      asked_accepted Lengths 0 _ a₂.1,
      record {
        triangles = counts.0;
        few_halfedges = counts.1;
        few_points = counts.2;
        start_below = λ e h. (points H p e (yes₃ e h)).0;
        end_below = λ e h. (points H p e (yes₃ e h)).1;
        paired_below = λ e h. ltb-true _ _ (each_accepted Pair (has_pair H n) n a₄.1 e h);
        paired_back = λ e h. eqb-true _ _ (each_accepted Mutual (is_mutual H) n a₅.1 e h);
        ends_differ = λ e h. (opposite H p e (yes₆ e h)).0;
        paired_start = λ e h. (opposite H p e (yes₆ e h)).1;
        paired_end = λ e h. (opposite H p e (yes₆ e h)).2;
        next_start = λ e h. eqb-true _ _ (each_accepted Joined (is_joined H) n a₇.1 e h);
      },
    )

-- and a sound mesh is accepted where they have
pub sound_accepted : (H : Halfedges) (n p : ℕ) → Sound H n p → check_mesh H n p true ≡ Ok tt
unfolding check_mesh
sound_accepted H n p s =
    accepted_then
    (accepted_then
    (accepted_then
    (accepted_then
    (accepted_then
    (accepted_then
    (accepted_asked Counts 0 (and_from _ _ (and_from _ _ (eq-eqb _ _ s.triangles) (le-leb _ _ s.few_halfedges)) (le-leb _ _ s.few_points)))
    (accepted_asked Lengths 0 refl))
    (accepted_each Points (has_points H p) n (λ e h. and_from _ _ (lt-ltb _ _ (s.start_below e h)) (lt-ltb _ _ (s.end_below e h)))))
    (accepted_each Pair (has_pair H n) n (λ e h. lt-ltb _ _ (s.paired_below e h))))
    (accepted_each Mutual (is_mutual H) n (λ e h. eq-eqb _ _ (s.paired_back e h))))
    (accepted_each Opposite (is_opposite H) n (λ e h. and_from _ _ (and_from _ _ (ap not (ne_eqb _ _ (s.ends_differ e h))) (eq-eqb _ _ (s.paired_start e h))) (eq-eqb _ _ (s.paired_end e h)))))
    (accepted_each Joined (is_joined H) n (λ e h. eq-eqb _ _ (s.next_start e h)))

-- both, of an answer of the call: its clause `accepted`. So for the further questions below
pub mesh_exactly : (H : Halfedges) (n p : ℕ) (lengths : Bool) {r : Checked} → r ≡ check_mesh H n p lengths → (r ≡ Ok tt) ↔ ((lengths ≡ true) × Sound H n p)
mesh_exactly H n p lengths e = (λ q. accepted H n p lengths (sym e ∙ q), λ f. e ∙ (rw f.0 (sound_accepted H n p f.1)))

-- ---- one question of each of m places after the answer a, by a test t, of which M is what it finds

module _ (a : Checked) (question : Question) (t : ℕ → Bool) (m : ℕ) (M : ℕ → Type 0) (found : (k : ℕ) → t k ≡ true → M k) (tested : (k : ℕ) → M k → t k ≡ true) where
  further_exactly : {r : Checked} → r ≡ (a then each question t m) → (r ≡ Ok tt) ↔ ((a ≡ Ok tt) × ((k : ℕ) → k < m → M k))
  further_exactly e = (
    λ q. let b = then_accepted a (each question t m) (sym e ∙ q) in (b.0, λ k h. found k (each_accepted question t m b.1 k h)),
    λ f. e ∙ accepted_then f.0 (accepted_each question t m (λ k h. tested k (f.1 k h))),
  )

-- ---- the questions 8 to 12, after the answer a
module _ (a : Checked) (n : ℕ) where
  pub refs_exactly : (R : List ℤ) {r : Checked} → r ≡ check_refs a R n → (r ≡ Ok tt) ↔ ((a ≡ Ok tt) × ((t : ℕ) → t < n / 3 → le_z (pos 1) (ref_at R t 0) ≡ true))
  unfolding check_refs
  refs_exactly R = further_exactly a Mesh (has_mesh R) (n / 3) (λ t. le_z (pos 1) (ref_at R t 0) ≡ true) (λ t q. q) (λ t q. q)

  pub entries_exactly : (E : List ℕ) (S : List Float) {r : Checked} → r ≡ check_entries a E S n → (r ≡ Ok tt) ↔ ((a ≡ Ok tt) × ((k : ℕ) → k < length E → (get_or E k 0 < n) × (sign_clear (get_or S k nan) ≡ true)))
  unfolding check_entries
  entries_exactly E S e =
      let named = further_exactly a Entry (names_halfedge E n) (length E) (λ k. get_or E k 0 < n) (λ k. ltb-true _ _) (λ k. lt-ltb _ _) refl in
      let signed = further_exactly (a then each Entry (names_halfedge E n) (length E)) Sign (has_clear_sign S) (length E) (λ k. sign_clear (get_or S k nan) ≡ true) (λ k q. q) (λ k q. q) e in (
        λ q. let s = signed.0 q in let g = named.0 s.0 in (g.0, λ k h. (g.1 k h, s.1 k h)),
        λ f. signed.1 (named.1 (f.0, λ k h. (f.1 k h).0), λ k h. (f.1 k h).1),
      )

  pub flags_exactly : (F : List ℕ) {r : Checked} → r ≡ check_flags a F n → (r ≡ Ok tt) ↔ ((a ≡ Ok tt) × ((e : ℕ) → e < n → get_or F e 0 ≤ 1))
  unfolding check_flags
  flags_exactly F = further_exactly a Flag (is_flag F) n (λ e. get_or F e 0 ≤ 1) (λ e. leb-true _ _) (λ e. le-leb _ _)

  pub rows_exactly : (list : List ℤ) (rows : ℕ) {r : Checked} → r ≡ check_rows a list rows n → (r ≡ Ok tt) ↔ ((a ≡ Ok tt) × ((e : ℕ) → e < n → (prop_vert list e < no_index) × (prop_vert list e < rows)))
  unfolding check_rows
  rows_exactly list rows =
      further_exactly a Row (has_row list rows) n (λ e. (prop_vert list e < no_index) × (prop_vert list e < rows))
      (λ e q. let both = and_parts _ _ q in (ltb-true _ _ both.0, ltb-true _ _ both.1))
      (λ e f. and_from _ _ (lt-ltb _ _ f.0) (lt-ltb _ _ f.1))
