-- What a listing's lists hold, edge by edge; and that the clean listing's edges, and its entries, are those of the ported one that touch no all-zero normal. Assumes nothing.
use Prim.Native.Nat.{ℕ, zero, suc, ◌+◌, ◌*◌, ◌<◌, ◌≤◌}
use native.Mathlib.Omega.{arith}
use mathlib.Core.Path.{◌≡◌, refl, sym, ap, ◌∙◌}
use mathlib.Core.Bool.{Bool, true, false, not, ◌&&◌}
use mathlib.Core.List.{List, [], ◌∷◌, ◌++◌}
use lib.ListN.{length, take, drop, set, replicate, length-append}
use lib.Seq.{take-append_seam}
use lib.Ieee.{Float, lt}
use Rattle.std.proofs.Math.Bool.{or_comm}
use Rattle.std.specs.Prelude.{filter, flat_map, Ok, Err}
use Rattle.std.specs.List.{range_with_len}
use Rattle.std.proofs.lemmas.List.{append-nil, length-replicate, replicate-append-replicate}
use Rattle.std.proofs.lemmas.List.Elements.{filter-append}
use Rattle.std.proofs.lemmas.Grind.{flat_map-append}
use Rattle.common.specs.Fold.{fold_to}
use Rattle.common.specs.Count.{sum, count_below}
use Rattle.common.proofs.Front.{front_two, range_next}
use Rattle.linalg.specs.Vec.{is_zero, dot_of}
use Rattle.mesh.specs.Mesh.{paired_halfedge, is_forward, Halfedges}
use Rattle.mesh.specs.Sound.{Sound}
use Rattle.questions.specs.Check.{Checked}
use Rattle.sharpen.specs.Crease.{min_radians, dihedral_of, own_normal, other_normal, touches_zero, edge_kind, is_listed}
use Rattle.sharpen.specs.Entries.{Entries, entries_in, push_entry, push_edge, list_edge, list_edges}
use Rattle.sharpen.specs.Sharpen.{check_lists, creases, crease_tally, tally_of, sharpen_edges, entries_after}
use Rattle.sharpen.specs.Edges.{edge_entries, edges_of, edges_after, HoldEdges, EntriesFiltered}
use Rattle.sharpen.specs.declared.edge.Rule.{Rule}
use Rattle.sharpen.specs.declared.edge.Rule.TheVariants.{Ported, Clean}
use Rattle.sharpen.proofs.Entries.{entries_twice}
use Rattle.sharpen.proofs.Room.{lists_checked, entries_room}

-- ---- the numbers below n that pass a test

abbrev passed : (ℕ → Bool) → ℕ → List ℕ
passed t n = filter t (range_with_len 0 n)

module _ (t : ℕ → Bool) where
  passed_next : (n : ℕ) → passed t (suc n) ≡ passed t n ++ filter t (n ∷ [])
  passed_next n = ap (filter t) (range_next n) ∙ filter-append t (range_with_len 0 n) (n ∷ [])

  passed_count : (n : ℕ) → length (passed t n) ≡ count_below t n
  unfolding sum count_below
  passed_count zero = refl
  passed_count (suc n) = ap length (passed_next n) ∙ length-append (passed t n) (filter t (n ∷ [])) ∙ go (t n) refl (passed_count n)
    where
      go : (b : Bool) → t n ≡ b → length (passed t n) ≡ count_below t n → length (passed t n) + length (filter t (n ∷ [])) ≡ count_below t (suc n)
      go true e ih = rw e (omega arith)
      go false e ih = rw e (omega arith)

-- ---- the entries of edges

abbrev entries_of : Halfedges → List ℕ → List ℕ
entries_of H edges = flat_map (edge_entries H) edges

module _ (H : Halfedges) where
  entries_length : (edges : List ℕ) → length (entries_of H edges) ≡ 2 * length edges
  entries_length [] = refl
  entries_length (e ∷ edges) = omega (arith, entries_length edges)

  module _ (smooth : Float) (I : List ℕ) (Q : List Float) where
    -- one edge more
    edge_next : (edges : List ℕ) (s : Entries) (e : ℕ) → s.count + 2 ≤ length I → s.count + 2 ≤ length Q → HoldEdges H smooth I Q edges s → HoldEdges H smooth I Q (edges ++ e ∷ []) (push_edge H smooth s e)
    unfolding push_edge push_entry
    edge_next edges s e hi hq h =
        let k = s.count in
        let pair = paired_halfedge H e in
        record {
          count = omega (arith, h.count, length-append edges (e ∷ []));
          halfedges =
              ap (λ (l : List ℕ). set (set l k e) (k + 1) pair) h.halfedges
              ∙ front_two (entries_of H edges) I k (entries_length edges ∙ sym h.count) e pair hi
              ∙ ap (λ (l : List ℕ). l ++ drop (k + 1 + 1) I) (sym (flat_map-append (edge_entries H) edges (e ∷ [])));
          smoothness =
              ap (λ (l : List Float). set (set l k smooth) (k + 1) smooth) h.smoothness
              ∙ front_two (replicate k smooth) Q k (length-replicate k smooth) smooth smooth hq
              ∙ ap (λ (l : List Float). l ++ drop (k + 1 + 1) Q) (replicate-append-replicate k 2 smooth ∙ ap (λ (j : ℕ). replicate j smooth) (let z : k + 2 ≡ k + 1 + 1 = omega arith in z));
        }

    -- the entries of the edges that pass, where there is room for two more at each
    module _ (t : ℕ → Bool) (m : ℕ) (li : length I ≡ m) (lq : length Q ≡ m) (room : (e : ℕ) → e < m → t e ≡ true → 2 * count_below t e + 2 ≤ m) where
      edges_held : (n : ℕ) → n ≤ m → HoldEdges H smooth I Q (passed t n) (list_edges H t smooth (entries_in I Q 0) n)
      unfolding fold_to list_edge
      edges_held zero h = record { count = refl; halfedges = refl; smoothness = refl }
      edges_held (suc n) h = rw (passed_next t n) (go (t n) refl (edges_held n (omega arith)))
        where
          go : (b : Bool) → t n ≡ b → HoldEdges H smooth I Q (passed t n) (list_edges H t smooth (entries_in I Q 0) n) → HoldEdges H smooth I Q (passed t n ++ filter t (n ∷ [])) (list_edges H t smooth (entries_in I Q 0) (suc n))
          go true e k =
              let two = entries_twice I Q H t smooth n in
              let here = room n (omega arith) e in
              rw e (edge_next (passed t n) (list_edges H t smooth (entries_in I Q 0) n) n (omega arith) (omega arith) k)
          go false e k = rw (e, append-nil) k

-- ---- the two rules

module _ (H : Halfedges) (A : List Float) (limit : Float) where
  abbrev ported : ℕ → Bool
  ported = is_listed Ported H A limit

  abbrev clean : ℕ → Bool
  clean = is_listed Clean H A limit

  -- what is listed by the clean rule is listed by the Rust's, and touches no zero normal
  clean_is : (e : ℕ) → clean e ≡ ported e && not (touches_zero H A e)
  unfolding edge_kind
  clean_is e = go (is_forward H e && lt limit (dihedral_of (dot_of (own_normal A e) (other_normal H A e)))) refl (touches_zero H A e) refl
    where
      go : (a : Bool) → (is_forward H e && lt limit (dihedral_of (dot_of (own_normal A e) (other_normal H A e)))) ≡ a → (b : Bool) → touches_zero H A e ≡ b → clean e ≡ ported e && not (touches_zero H A e)
      go true p true q = rw (p, q)
      go true p false q = rw (p, q)
      go false p b q = rw p

  clean_filtered : (xs : List ℕ) → filter clean xs ≡ filter (λ e. not (touches_zero H A e)) (filter ported xs)
  clean_filtered [] = refl
  clean_filtered (e ∷ xs) = go (ported e) refl (touches_zero H A e) refl (clean_filtered xs)
    where
      go : (a : Bool) → ported e ≡ a → (b : Bool) → touches_zero H A e ≡ b → filter clean xs ≡ filter (λ e. not (touches_zero H A e)) (filter ported xs) → filter clean (e ∷ xs) ≡ filter (λ e. not (touches_zero H A e)) (filter ported (e ∷ xs))
      go true p true q ih = rw (clean_is e, p, q) ih
      go true p false q ih = rw (clean_is e, p, q) (ap (λ (l : List ℕ). e ∷ l) ih)
      go false p b q ih = rw (clean_is e, p) ih

-- ---- an edge's two entries touch the same triangles

module _ {H : Halfedges} (A : List Float) {m p : ℕ} (s : Sound H m p) where
  abbrev kept : ℕ → Bool
  kept e = not (touches_zero H A e)

  pair_kept : (e : ℕ) → e < m → kept (paired_halfedge H e) ≡ kept e
  pair_kept e h = rw (s.paired_back e h) (ap not (or_comm (is_zero (other_normal H A e)) (is_zero (own_normal A e))))

  one_kept : (e : ℕ) → e < m → filter kept (edge_entries H e) ≡ entries_of H (filter kept (e ∷ []))
  one_kept e h = go (kept e) refl
    where
      go : (b : Bool) → kept e ≡ b → filter kept (edge_entries H e) ≡ entries_of H (filter kept (e ∷ []))
      go true q = rw (pair_kept e h, q) refl
      go false q = rw (pair_kept e h, q) refl

  entries_kept : (t : ℕ → Bool) (n : ℕ) → n ≤ m → filter kept (entries_of H (passed t n)) ≡ entries_of H (filter kept (passed t n))
  entries_kept t zero h = refl
  entries_kept t (suc n) h = rw (passed_next t n, flat_map-append, filter-append, filter-append, flat_map-append) (go (t n) refl (entries_kept t n (omega arith)))
    where
      go : (b : Bool) → t n ≡ b → filter kept (entries_of H (passed t n)) ≡ entries_of H (filter kept (passed t n)) → filter kept (entries_of H (passed t n)) ++ filter kept (entries_of H (filter t (n ∷ []))) ≡ entries_of H (filter kept (passed t n)) ++ entries_of H (filter kept (filter t (n ∷ [])))
      go true q ih = rw (q, ih) (ap (λ (l : List ℕ). entries_of H (filter kept (passed t n)) ++ l) (one_kept n (omega arith)))
      go false q ih = rw (q, ih) refl

-- ---- the calls, on an accepted mesh

module _ (H : Halfedges) (A : List Float) (angle : Float) (n : ℕ) where
  edges_are : (rule : Rule) → filter (is_listed rule H A (min_radians angle)) (range_with_len 0 n) ≡ edges_of rule H A angle n
  edges_are Ported = refl
  edges_are Clean = clean_filtered H A (min_radians angle) (range_with_len 0 n)

  tally_counts : crease_tally H A angle n ≡ length (edges_of Clean H A angle n)
  tally_counts = sym (passed_count (is_listed Clean H A (min_radians angle)) n) ∙ ap length (edges_are Clean)

  module _ (I : List ℕ) (Q : List Float) (p : ℕ) (accepted : check_lists H A I Q n p ≡ Ok tt) where
    holds_edges : (rule : Rule) (smooth : Float) → HoldEdges H smooth I Q (edges_of rule H A angle n) (creases rule H A angle smooth I Q n)
    holds_edges rule smooth =
        let lists = lists_checked H A I Q n p accepted in
        rw (edges_are rule) at (edges_held H smooth I Q (is_listed rule H A (min_radians angle)) n lists.entries lists.smoothness (entries_room rule A (min_radians angle) lists.sound) n (omega arith))

-- what is in front of the lists
entries_front : {H : Halfedges} {smooth : Float} {I : List ℕ} {Q : List Float} {edges : List ℕ} {s : Entries} → HoldEdges H smooth I Q edges s → take s.count s.halfedges ≡ entries_of H edges
entries_front {H} {I = I} {edges = edges} {s = s} h =
    let long : length (entries_of H edges) ≡ s.count = entries_length H edges ∙ sym h.count in
    ap (take s.count) h.halfedges ∙ (rw long at (take-append_seam (entries_of H edges) (drop s.count I)))

-- ---- the calls, for any lists

module _ (H : Halfedges) (A : List Float) (angle smooth : Float) (I : List ℕ) (Q : List Float) (n p : ℕ) where
  -- what either call leaves in the lists
  pub edges_held_after : (rule : Rule) → HoldEdges H smooth I Q (edges_after rule H A angle I Q n p) (entries_after rule H A angle smooth I Q n p)
  edges_held_after rule = go (check_lists H A I Q n p) refl
    where
      go : (checked : Checked) → check_lists H A I Q n p ≡ checked → HoldEdges H smooth I Q (edges_after rule H A angle I Q n p) (entries_after rule H A angle smooth I Q n p)
      go (Ok unit) accepted = rw accepted (holds_edges H A angle n I Q p accepted rule smooth)
      go (Err refusal) refused = rw refused (record { count = refl; halfedges = refl; smoothness = refl })

  -- its tally
  pub tally_after : (rule : Rule) → tally_of (sharpen_edges rule H A angle smooth I Q n p) ≡ length (edges_after Clean H A angle I Q n p)
  tally_after rule = go (check_lists H A I Q n p) refl
    where
      go : (checked : Checked) → check_lists H A I Q n p ≡ checked → tally_of (sharpen_edges rule H A angle smooth I Q n p) ≡ length (edges_after Clean H A angle I Q n p)
      go (Ok unit) accepted = rw accepted (tally_counts H A angle n)
      go (Err refusal) refused = rw refused refl

  -- what the clean call leaves in front of its lists
  clean_entries : EntriesFiltered H A angle smooth I Q n p (entries_after Clean H A angle smooth I Q n p)
  clean_entries = go (check_lists H A I Q n p) refl
    where
      go : (checked : Checked) → check_lists H A I Q n p ≡ checked → EntriesFiltered H A angle smooth I Q n p (entries_after Clean H A angle smooth I Q n p)
      go (Ok unit) accepted =
          rw accepted
          (entries_front (holds_edges H A angle n I Q p accepted Clean smooth)
          ∙ sym (entries_kept A (lists_checked H A I Q n p accepted).sound (is_listed Ported H A (min_radians angle)) n (omega arith))
          ∙ sym (ap (filter (λ e. not (touches_zero H A e))) (entries_front (holds_edges H A angle n I Q p accepted Ported smooth))))
      go (Err refusal) refused = rw refused refl

  pub entries_filtered : {E : List ℕ} {k : ℕ} → E ≡ (entries_after Clean H A angle smooth I Q n p).halfedges → k ≡ (entries_after Clean H A angle smooth I Q n p).count → EntriesFiltered H A angle smooth I Q n p (entries_in E Q k)
  entries_filtered e h = rw (e, h) clean_entries
