-- What the lists of an accepted mesh hold at a halfedge: normals at both triangles, and room for the entries. Assumes nothing.
use Prim.Native.Nat.{ℕ, ◌+◌, ◌*◌, ◌≤◌, ◌<◌}
use native.Mathlib.Omega.{arith}
use Rattle.std.proofs.lemmas.Grind.{common_steps}
use mathlib.Core.Path.{◌≡◌, refl, sym, ap, ◌∙◌}
use mathlib.Core.List.{List}
use mathlib.Core.Bool.{Bool, true, false, not, true≢false}
use lib.ListN.{length}
use lib.Ieee.{Float}
use Rattle.mesh.specs.Mesh.{halfedge_stride, paired_halfedge, is_forward, Halfedges}
use Rattle.mesh.specs.Sound.{Sound}
use Rattle.std.specs.Prelude.{Ok}
use Rattle.common.specs.Count.{count_below}
use Rattle.common.proofs.Count.{count_room}
use Rattle.questions.proofs.Accepted.{accepted}
use Rattle.mesh.proofs.Pairs.{one_forward, paired_injective}
use Rattle.sharpen.specs.Crease.{edge_kind, is_listed}
use Rattle.sharpen.specs.Turn.{listed_by, EdgeFits}
use Rattle.sharpen.specs.declared.edge.Rule.{Rule}
use Rattle.sharpen.specs.declared.crease_lists.CreaseLists.{CreaseLists}
use Rattle.sharpen.specs.Sharpen.{lengths_fit, check_lists}

module _ {H : Halfedges} {n p : ℕ} (rule : Rule) (A : List Float) (limit : Float) (s : Sound H n p) where
  -- of the two halfedges of an edge only the forward one is asked
  other_side : (e : ℕ) → e < n → is_listed rule H A limit e ≡ true → is_listed rule H A limit (paired_halfedge H e) ≡ false
  unfolding edge_kind
  other_side e h q =
      go (is_forward H e) refl q
    where
      go : (b : Bool) → is_forward H e ≡ b → is_listed rule H A limit e ≡ true → is_listed rule H A limit (paired_halfedge H e) ≡ false
      go true f r =
          let back : is_forward H (paired_halfedge H e) ≡ false = one_forward s e h ∙ ap not f in
          rw back
      go false f r = absurd (true≢false (sym r ∙ rw f))

  -- so that the entries have room in lists with a place for each halfedge: two more where e's edge is listed
  pub entries_room : (e : ℕ) → e < n → is_listed rule H A limit e ≡ true → 2 * count_below (is_listed rule H A limit) e + 2 ≤ n
  entries_room = count_room (λ e. paired_halfedge H e) n (is_listed rule H A limit) s.paired_below (paired_injective s) other_side

-- what the questions establish
pub record Lists (H : Halfedges) (A : List Float) (E : List ℕ) (S : List Float) (n p : ℕ) : Type 0 where
  pub sound : Sound H n p
  pub whole : H.numbers ≡ n * halfedge_stride
  pub face_normals : length A ≡ n
  pub entries : length E ≡ n
  pub smoothness : length S ≡ n

module _ (H : Halfedges) (A : List Float) (E : List ℕ) (S : List Float) (n p : ℕ) where
  pub lists_checked : check_lists H A E S n p ≡ Ok tt → Lists H A E S n p
  lists_checked a =
      let b = accepted H n p (lengths_fit H A E S n) a in
      record {
        sound = b.1;
        whole = grind (arith, common_steps);
        face_normals = grind (arith, common_steps, b.1.triangles);
        entries = grind (arith, common_steps);
        smoothness = grind (arith, common_steps);
      }

-- one turn of the loop, on lists of the same lengths with k entries
pub edge_fits : (lists : CreaseLists) (e : ℕ) → e < lists.n → {k : ℕ} {E : List ℕ} {S : List Float} → k ≡ 2 * count_below (listed_by lists.rule lists) e → length E ≡ lists.n → length S ≡ lists.n → EdgeFits lists e k E S
edge_fits lists e h q le ls = record {
  below = h;
  entries = λ crease. omega (arith, entries_room lists.rule lists.face_normals.now lists.limit lists.sound e h crease);
  smoothness = λ crease. omega (arith, entries_room lists.rule lists.face_normals.now lists.limit lists.sound e h crease);
}
