-- An accepted file is filled in as a mesh: it passes the questions 1 to 7, and 12, since the row of each halfedge is its own number. Assumes nothing.
use Prim.Native.Nat.{ℕ, ◌+◌, ◌*◌, ◌/◌, ◌%◌, ◌-◌, ◌≤◌, ◌<◌}
use native.Mathlib.Omega.{arith}
use native.Mathlib.Nat.{eq-or-lt_of_le}
use mathlib.Core.Path.{◌≡◌, refl, sym, ap, ◌∙◌}
use mathlib.Core.List.{List}
use mathlib.Core.Bool.{Bool, true, false, not, ◌&&◌}
use mathlib.Core.Logic.{◌⊎◌, inl, inr}
use lib.ListN.{length, take}
use lib.IntN.{ℤ, pos}
use lib.Ieee.{Float}
use lib.Dec.{eqb, leb}
use Rattle.std.specs.Prelude.{Ok}
use Rattle.std.proofs.lemmas.Bool.{and_parts, and_from, eq-eqb, leb-true, not-true}
use Rattle.mesh.specs.Mesh.{max_halfedges, max_points, halfedge_stride, number_at, index_of, field, start_vert, end_vert, paired_halfedge, prop_vert, next_halfedge, Halfedges, as_halfedges}
use Rattle.questions.specs.Check.{asked, check_mesh, check_rows}
use Rattle.mesh.specs.Sound.{Sound}
use Rattle.questions.specs.declared.Question.TheVariants.{Lengths, Size, Corners, Pairing}
use Rattle.questions.proofs.Accepted.{then_accepted, asked_accepted, each_accepted, sound_accepted, rows_exactly}
use Rattle.mesh.proofs.Halfedges.{next_below, next_cases}
use Rattle.little_endian.specs.Filled.{items, filled}
use Rattle.little_endian.proofs.Filled.{items_length, items_at, filled_items}
use Rattle.stl.specs.File.File.{length_fits, triangle_count, halfedge_count, corner_at, normal_item}
use Rattle.stl.specs.File.Points.{same_point, point_of, point_count}
use Rattle.stl.specs.File.Edges.{pair_of, is_paired}
use Rattle.stl.specs.File.Lists.{point_item, halfedge_number, halfedge_item}
use Rattle.stl.proofs.FileLaws.Points.{equal_same, same_number, number_same, number_below}
use Rattle.stl.proofs.FileLaws.Edges.{pair_below, pair_corners, pair_back}
use Rattle.stl.specs.Questions.{finite_corner, triangle_fits, check_file, has_room}
use Rattle.stl.specs.Stl.{counts_of, IsMesh}

-- ---- what the questions say of an accepted file
pub record FileFits (s : List ℕ) : Type 0 where
  pub corners : (t : ℕ) → t < triangle_count s → triangle_fits s t ≡ true
  pub few_points : point_count s ≤ max_points
  pub paired : (e : ℕ) → e < halfedge_count s → is_paired s e ≡ true

pub file_fits : (s : List ℕ) (room : Bool) → check_file s room ≡ Ok tt → (room ≡ true) × FileFits s
unfolding check_file
file_fits s room accepted =
    let a = then_accepted _ _ accepted in
    let b = then_accepted _ _ a.0 in
    let c = then_accepted _ _ b.0 in (
      asked_accepted Lengths 0 room c.0,
      record {
        corners = each_accepted Corners (triangle_fits s) (triangle_count s) c.1;
        few_points = leb-true _ _ (asked_accepted Size 0 _ b.1);
        paired = each_accepted Pairing (is_paired s) (halfedge_count s) a.1;
      },
    )

-- and of the lists lent for it, of these lengths
pub record ListsFit (s : List ℕ) (triangles pos_len h_len face_normals_len : ℕ) : Type 0 where
  pub pos_room : 9 * triangles ≤ pos_len
  pub h_room : 12 * triangles ≤ h_len
  pub face_normals_room : 3 * triangles ≤ face_normals_len
  pub fits : FileFits s

pub lists_fit : (s : List ℕ) (triangles pos_len h_len face_normals_len : ℕ) → triangles ≡ triangle_count s → check_file s (has_room s pos_len h_len face_normals_len) ≡ Ok tt → ListsFit s triangles pos_len h_len face_normals_len
lists_fit s triangles pos_len h_len face_normals_len counted accepted =
    let fit = file_fits s (has_room s pos_len h_len face_normals_len) accepted in
    let p = and_parts (leb (9 * triangle_count s) pos_len && leb (12 * triangle_count s) h_len) (leb (3 * triangle_count s) face_normals_len) fit.0 in
    let q = and_parts (leb (9 * triangle_count s) pos_len) (leb (12 * triangle_count s) h_len) p.0 in
    rw counted (record {
      pos_room = leb-true _ _ q.0;
      h_room = leb-true _ _ q.1;
      face_normals_room = leb-true _ _ p.1;
      fits = fit.1;
    })

-- as many places of a filled list as were filled
taken_length : {A : Type 0} (f : ℕ → A) (n m : ℕ) (xs : List A) → n ≡ m → length (take m (filled f n xs)) ≡ m
taken_length f n m xs e = rw (← e) (ap length (filled_items f n xs) ∙ items_length f n)

module _ (s : List ℕ) where
  -- the halfedges as filled in
  unfoldable halfedge_list : List ℤ
  halfedge_list = items (halfedge_item s) (halfedge_count s * halfedge_stride)

  unfoldable halfedges : Halfedges
  halfedges = as_halfedges halfedge_list

  item_at : (e k : ℕ) → e < halfedge_count s → k < halfedge_stride → field halfedge_list e k ≡ halfedge_number s e k
  unfolding field number_at halfedge_list index_of halfedge_item
  item_at e k h l =
      let quotient : (e * halfedge_stride + k) / halfedge_stride ≡ e = omega arith in
      let rest : (e * halfedge_stride + k) % halfedge_stride ≡ k = omega arith in
      ap index_of (items_at (halfedge_item s) (halfedge_count s * halfedge_stride) (e * halfedge_stride + k) (pos 0) (omega arith)) ∙ rw (quotient, rest)

  module _ (e : ℕ) (h : e < halfedge_count s) where
    start_is : start_vert halfedges e ≡ point_of s e
    unfolding halfedges as_halfedges halfedge_number
    start_is = item_at e 0 h (omega arith)

    end_is : end_vert halfedges e ≡ point_of s (next_halfedge e)
    unfolding halfedges as_halfedges halfedge_number
    end_is = item_at e 1 h (omega arith)

    pair_is : paired_halfedge halfedges e ≡ pair_of s e
    unfolding halfedges as_halfedges halfedge_number
    pair_is = item_at e 2 h (omega arith)

    row_is : prop_vert halfedge_list e ≡ e
    unfolding halfedge_number
    row_is = item_at e 3 h (omega arith)

  -- the ends of a halfedge differ, since no two corners of its triangle are equal
  apart : (i j : ℕ) → not (same_point s i j) ≡ true → corner_at s i ≡ corner_at s j → ⊥
  apart i j e q = let a : same_point s i j ≡ false = not-true _ e in let b = equal_same s i j q in let z : ◌≡◌ {A = ℕ} 0 1 = cc in omega arith

  ends_apart : (t : ℕ) → triangle_fits s t ≡ true → (e : ℕ) → e / 3 ≡ t → corner_at s e ≡ corner_at s (next_halfedge e) → ⊥
  unfolding triangle_fits
  ends_apart t fits e d q =
      let p = and_parts (finite_corner (corner_at s (3 * t)) && finite_corner (corner_at s (3 * t + 1)) && finite_corner (corner_at s (3 * t + 2))) (not (same_point s (3 * t) (3 * t + 1)) && not (same_point s (3 * t + 1) (3 * t + 2)) && not (same_point s (3 * t + 2) (3 * t))) fits in
      let b = and_parts (not (same_point s (3 * t) (3 * t + 1)) && not (same_point s (3 * t + 1) (3 * t + 2))) (not (same_point s (3 * t + 2) (3 * t))) p.1 in
      let a = and_parts (not (same_point s (3 * t) (3 * t + 1))) (not (same_point s (3 * t + 1) (3 * t + 2))) b.0 in
      go a.0 a.1 b.1 (next_cases e)
    where
      -- e is corner i of its triangle, and the next halfedge starts at corner j
      at : (i j : ℕ) → not (same_point s i j) ≡ true → e ≡ i → next_halfedge e ≡ j → ⊥
      at i j n x y = apart i j n (ap (corner_at s) (sym x) ∙ q ∙ ap (corner_at s) y)

      go : not (same_point s (3 * t) (3 * t + 1)) ≡ true → not (same_point s (3 * t + 1) (3 * t + 2)) ≡ true → not (same_point s (3 * t + 2) (3 * t)) ≡ true → (((e + 1) % 3 ≡ 0) × (next_halfedge e ≡ e + 1 - 3)) ⊎ (((e + 1) % 3 ≡ 0 → ⊥) × (next_halfedge e ≡ e + 1)) → ⊥
      go a b c (inl w) = at (3 * t + 2) (3 * t) c (omega arith) (omega arith)
      go a b c (inr w) = middle (eq-or-lt_of_le (let l : 3 * t ≤ e = omega arith in l))
        where
          middle : (3 * t ≡ e) ⊎ (3 * t < e) → ⊥
          middle (inl x) = at (3 * t) (3 * t + 1) a (omega arith) (omega arith)
          middle (inr l) = at (3 * t + 1) (3 * t + 2) b (omega arith) (omega arith)

  module _ (few : halfedge_count s ≤ max_halfedges) (fits : FileFits s) where
    three : halfedge_count s % 3 ≡ 0
    three = omega arith

    next_in : (e : ℕ) → e < halfedge_count s → next_halfedge e < halfedge_count s
    next_in e h = next_below (halfedge_count s) e three h

    pair_in : (e : ℕ) → e < halfedge_count s → pair_of s e < halfedge_count s
    pair_in e h = pair_below s e (fits.paired e h)

    sound : Sound halfedges (halfedge_count s) (point_count s)
    sound = record {
      triangles = three;
      few_halfedges = few;
      few_points = fits.few_points;
      start_below = λ e h. rw (start_is e h) (number_below s e h);
      end_below = λ e h. rw (end_is e h) (number_below s (next_halfedge e) (next_in e h));
      paired_below = λ e h. rw (pair_is e h) (pair_in e h);
      paired_back = λ e h. rw (pair_is e h) (pair_is (pair_of s e) (pair_in e h) ∙ pair_back s e h (fits.paired e h) (fits.paired (pair_of s e) (pair_in e h)));
      ends_differ = λ e h q. ends_apart (e / 3) (fits.corners (e / 3) (omega arith)) e refl (number_same s e (next_halfedge e) (sym (start_is e h) ∙ q ∙ end_is e h));
      paired_start = λ e h. rw (pair_is e h, end_is e h) (start_is (pair_of s e) (pair_in e h) ∙ sym (same_number s _ _ (pair_corners s e (fits.paired e h)).1));
      paired_end = λ e h. rw (pair_is e h, start_is e h) (end_is (pair_of s e) (pair_in e h) ∙ sym (same_number s _ _ (pair_corners s e (fits.paired e h)).0));
      next_start = λ e h. rw (end_is e h) (start_is (next_halfedge e) (next_in e h));
    }

    rows : check_rows (Ok tt) halfedge_list (halfedge_count s) (halfedge_count s) ≡ Ok tt
    rows = (rows_exactly (Ok tt) (halfedge_count s) halfedge_list (halfedge_count s) refl).1 (refl, λ e h. (omega (arith, row_is e h), omega (arith, row_is e h)))

    list_is_mesh : (list : List ℤ) (lengths : Bool) → list ≡ halfedge_list → lengths ≡ true → (check_mesh (as_halfedges list) (halfedge_count s) (point_count s) lengths ≡ Ok tt) × (check_rows (Ok tt) list (halfedge_count s) (halfedge_count s) ≡ Ok tt)
    unfolding halfedges
    list_is_mesh list lengths e q = rw (e, q) (sound_accepted halfedges (halfedge_count s) (point_count s) sound, rows)

    filled_is_mesh : (P : List Float) (L : List ℤ) (A : List Float) → IsMesh (Ok (counts_of s)) (filled (point_item s) (3 * point_count s) P) (filled (halfedge_item s) (halfedge_count s * halfedge_stride) L) (filled (normal_item s) (3 * triangle_count s) A)
    unfolding halfedge_list
    filled_is_mesh P L A =
        let points = taken_length (point_item s) (3 * point_count s) (point_count s * 3) P (omega arith) in
        let links = taken_length (halfedge_item s) (halfedge_count s * halfedge_stride) (halfedge_count s * halfedge_stride) L refl in
        let normals = taken_length (normal_item s) (3 * triangle_count s) (halfedge_count s) A refl in
        list_is_mesh _ _ (filled_items (halfedge_item s) (halfedge_count s * halfedge_stride) L) (and_from _ _ (and_from _ _ (eq-eqb _ _ points) (eq-eqb _ _ links)) (eq-eqb _ _ (normals ∙ omega arith)))

-- the clause `mesh` of `read_stl`, where the questions of the file and of the lists are all answered yes
pub mesh_of : (s : List ℕ) (P : List Float) (L : List ℤ) (A : List Float) → asked Size 0 (length_fits s) ≡ Ok tt → check_file s (has_room s (length P) (length L) (length A)) ≡ Ok tt → IsMesh (Ok (counts_of s)) (filled (point_item s) (3 * point_count s) P) (filled (halfedge_item s) (halfedge_count s * halfedge_stride) L) (filled (normal_item s) (3 * triangle_count s) A)
mesh_of s P L A long accepted =
    let fit = and_parts (eqb (length s) (84 + 50 * triangle_count s)) (leb (halfedge_count s) max_halfedges) (asked_accepted Size 0 _ long) in
    filled_is_mesh s (leb-true _ _ fit.1) (file_fits s (has_room s (length P) (length L) (length A)) accepted).1 P L A
