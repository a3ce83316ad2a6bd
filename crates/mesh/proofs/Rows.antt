-- Lists of halfedges that differ in their rows alone give the same `Halfedges`: every definition over these says the same of both.
use Prim.Native.Nat.{ℕ, ◌+◌, ◌*◌, ◌≤◌, ◌<◌}
use native.Mathlib.Decide.{dec_le}
use native.Mathlib.Omega.{arith}
use mathlib.Core.Path.{◌≡◌, sym, ap, fun_ext, ◌∙◌}
use mathlib.Core.List.{List}
use lib.ListN.{length, get_or-eq_default}
use lib.IntN.{ℤ, pos}
use Rattle.mesh.specs.Mesh.{halfedge_stride, number_at, index_of, field, Halfedges, as_halfedges}
use Rattle.mesh.specs.Rows.{SameButRows, RowsUnread}

-- past the last halfedge each number is 0
past : (list : List ℤ) (n e k : ℕ) → length list ≡ n * halfedge_stride → n ≤ e → number_at list e halfedge_stride k ≡ pos 0
unfolding number_at
past list n e k whole h = get_or-eq_default list (pos 0) (let l : length list ≤ e * halfedge_stride + k = omega arith in l)

module _ {list other : List ℤ} {n : ℕ} (s : SameButRows list other n) where
  number_same : (e k : ℕ) → k < 3 → number_at list e halfedge_stride k ≡ number_at other e halfedge_stride k
  number_same e k h = go (dec_le n e)
    where
      go : Dec (n ≤ e) → number_at list e halfedge_stride k ≡ number_at other e halfedge_stride k
      go (yes l) = past list n e k s.whole l ∙ sym (past other n e k s.other_whole l)
      go (no l) = s.agree e k (omega arith) h

  field_same : (k : ℕ) → k < 3 → ◌≡◌ {A = ℕ → ℕ} (λ e. field list e k) (λ e. field other e k)
  unfolding field
  field_same k h = fun_ext (λ e. ap index_of (number_same e k h))

abbrev halfedges : ℕ → (ℕ → ℕ) → (ℕ → ℕ) → (ℕ → ℕ) → Halfedges
halfedges numbers start end pair = record { numbers = numbers; start = start; end = end; pair = pair }

pub same_halfedges : (list other : List ℤ) (n : ℕ) → SameButRows list other n → as_halfedges list ≡ as_halfedges other
unfolding as_halfedges
same_halfedges list other n s =
    let numbers = s.whole ∙ sym s.other_whole in
    let start = field_same s 0 (omega arith) in
    let end = field_same s 1 (omega arith) in
    let pair = field_same s 2 (omega arith) in
    λ i. halfedges (numbers i) (start i) (end i) (pair i)

pub rows_unread : {X : Type 0} (f : Halfedges → X) → RowsUnread f
unfolding RowsUnread
rows_unread f list other n s = ap f (same_halfedges list other n s)
