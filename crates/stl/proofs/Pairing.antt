-- Question 32 refuses a file if and only if some directed edge occurs twice or has no reverse. Assumes nothing.
use Prim.Native.Nat.{ℕ, ◌<◌}
use native.Mathlib.Omega.{arith}
use native.Mathlib.Decide.{dec_lt}
use mathlib.Core.Path.{◌≡◌, refl, sym, ap, ◌∙◌}
use mathlib.Core.List.{List}
use mathlib.Core.Logic.{◌⊎◌, inl, inr}
use mathlib.Core.Bool.{Bool, true, false}
use lib.Dec.{leb, ltb}
use lib.IntN.{ℤ}
use lib.Ieee.{Float}
use lib.ListN.{length}
use Rattle.std.specs.Prelude.{Ok, Err}
use Rattle.std.proofs.lemmas.Bool.{ltb-false}
use Rattle.mesh.specs.Mesh.{max_points}
use Rattle.questions.specs.Questions.{number}
use Rattle.questions.specs.Check.{Checked, refused, number_of, cond_checked, asked, each, ◌then◌, answer_of}
use Rattle.common.specs.Lowest.{lowest}
use Rattle.questions.specs.declared.Question.{Question}
use Rattle.questions.specs.declared.Question.TheVariants.{Lengths, Size, Corners, Pairing}
use Rattle.common.proofs.Lowest.{lowest_found, lowest_before}
use Rattle.questions.proofs.Accepted.{then_accepted, each_accepted, accepted_each}
use Rattle.stl.specs.File.File.{length_fits, triangle_count, halfedge_count}
use Rattle.stl.specs.File.Points.{point_count}
use Rattle.stl.specs.File.Edges.{same_edge, pair_of, is_paired}
use Rattle.stl.proofs.FileLaws.Edges.{count_other, false_or_true, corners_edge, edge_corners, twice_bad, alone_bad, unpaired, pair_least}
use Rattle.stl.specs.Questions.{has_room, triangle_fits, check_file, check_stl}
use Rattle.stl.specs.Stl.{Reading, counts_of, check_lists, read_stl}
use Rattle.stl.specs.Pairing.{OccursTwice, HasNoReverse, RefusedExactly, PairedExactly}
use Rattle.stl.specs.declared.MeshCounts.{MeshCounts}
use Rattle.stl.proofs.Sound.{file_fits}

module _ (s : List ℕ) where
  true_false : {b : Bool} → b ≡ true → b ≡ false → ⊥
  true_false e f = let z : ◌≡◌ {A = ℕ} 0 1 = cc in omega arith

  -- either is refused
  refused_then : OccursTwice s ⊎ HasNoReverse s → each Pairing (is_paired s) (halfedge_count s) ≡ Ok tt → ⊥
  refused_then (inl (e, f, l, h, q)) accepted =
      true_false (each_accepted Pairing (is_paired s) (halfedge_count s) accepted e (omega arith)) (twice_bad s e f (omega arith) h (λ x. omega arith) q)
  refused_then (inr (e, h, none)) accepted =
      true_false (each_accepted Pairing (is_paired s) (halfedge_count s) accepted e h) (alone_bad s e (λ f l r. true_false r (none f l)))

  -- nothing else is: of the lowest halfedge that is refused one of the two holds
  edge_back : (e f : ℕ) → same_edge s e f ≡ true → same_edge s f e ≡ true
  edge_back e f q = let p = edge_corners s e f q in corners_edge s f e (sym p.0) (sym p.1)

  either : (e : ℕ) → e < halfedge_count s → is_paired s e ≡ false → OccursTwice s ⊎ HasNoReverse s
  either e h b = go (ltb (pair_of s e) (halfedge_count s)) refl
    where
      go : (v : Bool) → ltb (pair_of s e) (halfedge_count s) ≡ v → OccursTwice s ⊎ HasNoReverse s
      go true q = order (count_other (same_edge s e) (halfedge_count s) e h (corners_edge s e e refl refl) (unpaired s e q b))
        where
          order : (f : ℕ) × (f < halfedge_count s) × (same_edge s e f ≡ true) × (f ≡ e → ⊥) → OccursTwice s ⊎ HasNoReverse s
          order (f, l, r, d) = pick (dec_lt e f)
            where
              pick : Dec (e < f) → OccursTwice s ⊎ HasNoReverse s
              pick (yes k) = inl (e, f, k, l, r)
              pick (no k) = inl (f, e, omega arith, h, edge_back e f r)
      go false q = inr (e, h, λ f l. false_or_true _ (λ r. let z = pair_least s e f r in let w = ltb-false _ _ q in omega arith))

  refused_means : (each Pairing (is_paired s) (halfedge_count s) ≡ Ok tt → ⊥) → OccursTwice s ⊎ HasNoReverse s
  refused_means d = go (dec_lt (lowest (is_paired s) (halfedge_count s)) (halfedge_count s))
    where
      go : Dec (lowest (is_paired s) (halfedge_count s) < halfedge_count s) → OccursTwice s ⊎ HasNoReverse s
      go (yes h) = either (lowest (is_paired s) (halfedge_count s)) h (lowest_found (is_paired s) (halfedge_count s) h)
      go (no h) = absurd (d (accepted_each Pairing (is_paired s) (halfedge_count s) (λ e l. lowest_before (is_paired s) (halfedge_count s) e (omega arith))))

  refused_exactly : RefusedExactly s
  refused_exactly = (refused_means, refused_then)

-- ---- of an answer of the call
answer_number : (c : Checked) (counts : MeshCounts) → number_of (answer_of c counts) ≡ number_of c
answer_number (Ok tt) counts = refl
answer_number (Err refusal) counts = refl

answer_accepted : (c : Checked) (a b : MeshCounts) → answer_of c a ≡ Ok b → c ≡ Ok tt
answer_accepted (Ok tt) a b e = refl
answer_accepted (Err refusal) a b e = let z : ◌≡◌ {A = ℕ} 0 1 = cc in absurd (omega arith)

-- which of two answers has the number k, and of which question it is
module _ (k : ℕ) where
  then_number : (a b : Checked) → number_of (a then b) ≡ k → (number_of a ≡ k) ⊎ (number_of b ≡ k)
  then_number (Ok tt) b e = inr e
  then_number (Err refusal) b e = inl e

  asked_number : (q : Question) (place : ℕ) (b : Bool) → (0 ≡ k → ⊥) → number_of (asked q place b) ≡ k → number q ≡ k
  asked_number q place true d e = absurd (d e)
  asked_number q place false d e = e

  each_number : (q : Question) (t : ℕ → Bool) (n : ℕ) → (0 ≡ k → ⊥) → number_of (each q t n) ≡ k → number q ≡ k
  each_number q t n d e = asked_below (ltb (lowest t n) n) e
    where
      asked_below : (b : Bool) → number_of (cond_checked b (refused q (lowest t n)) (Ok tt)) ≡ k → number q ≡ k
      asked_below true h = h
      asked_below false h = absurd (d h)

module _ (s : List ℕ) (pos_len h_len face_normals_len : ℕ) where
  last_refused : number_of (check_stl s pos_len h_len face_normals_len) ≡ 32 → each Pairing (is_paired s) (halfedge_count s) ≡ Ok tt → ⊥
  unfolding check_file
  last_refused e q = first (then_number 32 (asked Size 0 (length_fits s)) (check_file s (has_room s pos_len h_len face_normals_len)) e)
    where
      zero_not : ◌≡◌ {A = ℕ} 0 32 → ⊥
      zero_not z = omega arith

      fourth : number_of (each Pairing (is_paired s) (halfedge_count s)) ≡ 32 → ⊥
      fourth h = zero_not (sym (ap number_of q) ∙ h)

      third : (number_of (asked Lengths 0 (has_room s pos_len h_len face_normals_len) then each Corners (triangle_fits s) (triangle_count s)) ≡ 32) ⊎ (number_of (asked Size 0 (leb (point_count s) max_points)) ≡ 32) → ⊥
      third (inl h) = pick (then_number 32 (asked Lengths 0 (has_room s pos_len h_len face_normals_len)) (each Corners (triangle_fits s) (triangle_count s)) h)
        where
          pick : (number_of (asked Lengths 0 (has_room s pos_len h_len face_normals_len)) ≡ 32) ⊎ (number_of (each Corners (triangle_fits s) (triangle_count s)) ≡ 32) → ⊥
          pick (inl a) = let z = asked_number 32 Lengths 0 _ zero_not a in omega arith
          pick (inr a) = let z = each_number 32 Corners _ _ zero_not a in omega arith
      third (inr h) = let z = asked_number 32 Size 0 _ zero_not h in omega arith

      second : (number_of (asked Lengths 0 (has_room s pos_len h_len face_normals_len) then each Corners (triangle_fits s) (triangle_count s) then asked Size 0 (leb (point_count s) max_points)) ≡ 32) ⊎ (number_of (each Pairing (is_paired s) (halfedge_count s)) ≡ 32) → ⊥
      second (inl h) = third (then_number 32 (asked Lengths 0 (has_room s pos_len h_len face_normals_len) then each Corners (triangle_fits s) (triangle_count s)) (asked Size 0 (leb (point_count s) max_points)) h)
      second (inr h) = fourth h

      first : (number_of (asked Size 0 (length_fits s)) ≡ 32) ⊎ (number_of (check_file s (has_room s pos_len h_len face_normals_len)) ≡ 32) → ⊥
      first (inl h) = let z = asked_number 32 Size 0 _ zero_not h in omega arith
      first (inr h) = second (then_number 32 (asked Lengths 0 (has_room s pos_len h_len face_normals_len) then each Corners (triangle_fits s) (triangle_count s) then asked Size 0 (leb (point_count s) max_points)) (each Pairing (is_paired s) (halfedge_count s)) h)

pub exactly_of : (s : List ℕ) (P : List Float) (L : List ℤ) (A : List Float) {r : Reading} → r ≡ read_stl s P L A → PairedExactly s r
exactly_of s P L A e =
    rw e
    (record {
      question = refused_exactly s;
      refused = λ h. refused_means s (last_refused s (length P) (length L) (length A) (sym (answer_number (check_lists s P L A) (counts_of s)) ∙ h));
      accepted = λ counts h. let fits = (file_fits s _ (then_accepted _ _ (answer_accepted (check_lists s P L A) (counts_of s) counts h)).1).1 in λ w. refused_then s w (accepted_each Pairing (is_paired s) (halfedge_count s) fits.paired);
    })

-- the same, where the length fits and the further questions are answered by `checked`
pub exactly_then : (s : List ℕ) (P : List Float) (L : List ℤ) (A : List Float) → asked Size 0 (length_fits s) ≡ Ok tt → {checked : Checked} → check_file s (has_room s (length P) (length L) (length A)) ≡ checked → {r : Reading} → r ≡ answer_of checked (counts_of s) → PairedExactly s r
exactly_then s P L A long e q = exactly_of s P L A (q ∙ rw (long, e))
