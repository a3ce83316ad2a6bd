-- The writing of points and starts, corner by corner. Assumes nothing.
use Prim.Native.Nat.{ℕ, suc, ◌+◌, ◌*◌, ◌/◌, ◌%◌, ◌^◌, ◌≤◌, ◌<◌}
use native.Mathlib.Omega.{arith}
use native.Mathlib.Nat.{eq-or-lt_of_le}
use mathlib.Core.Path.{◌≡◌, refl, sym, ap, ◌∙◌}
use mathlib.Core.List.{List}
use mathlib.Core.Logic.{◌⊎◌, inl, inr}
use mathlib.Core.Bool.{true}
use lib.ListN.{get_or, length, set, length-set}
use lib.Seq.{get_or-set_same, get_or-set_other}
use lib.IntN.{ℤ, pos}
use mir.Syntax.{w32}
use mir.Val.{to_z, of_z}
use Rattle.std.specs.Prelude.{Float}
use Rattle.std.proofs.lemmas.Bool.{eqb-true}
use Rattle.common.specs.Count.{count_below}
use Rattle.common.proofs.Count.{count_yes, count_no, count_within, count_mono, count_start}
use Rattle.mesh.specs.Mesh.{halfedge_stride}
use Rattle.little_endian.specs.Filled.{filled}
use Rattle.little_endian.proofs.Filled.{filled_none, filled_again}
use Rattle.little_endian.proofs.Places.{filled_more, filled_self}
use Rattle.stl.specs.File.File.{corner_at}
use Rattle.stl.specs.File.Points.{is_first, point_of, corner_of}
use Rattle.stl.specs.File.Lists.{coordinate, point_item}
use Rattle.stl.specs.File.Starts.{Starts, Further}
use Rattle.stl.specs.declared.file.Corner.{Corner}
use Rattle.stl.specs.declared.file.File.{File}
use Rattle.stl.proofs.FileLaws.Signed.{signed, signed_again}
use Rattle.stl.proofs.FileLaws.Points.{corner_of_lem, same_number, number_within}
use Rattle.stl.specs.declared.table.Keys.TheVariants.{Points}
use Rattle.stl.specs.declared.table.block.Block.{Block}
use Rattle.stl.specs.Points.Firsts.{Marked}
use Rattle.stl.specs.Points.CanStart.{put_point, Written, CanStart}
use Rattle.stl.proofs.PointsLaws.Counts.{mark_first, mark_later, mark_below, mark_corner}

-- a first appearance is counted as its point
first_number : (s : List ℕ) (c : ℕ) → is_first s c ≡ true → point_of s c ≡ count_below (is_first s) c
unfolding point_of is_first
first_number s c e = ap (count_below (is_first s)) (eqb-true _ _ e)

module _ (F : File) (c v : ℕ) (P : List Float) where
  -- the three numbers of a first appearance
  point_number : c < 3 * F.triangles → is_first F.bytes.now c ≡ true → v ≡ count_below (is_first F.bytes.now) c → (i k : ℕ) → i ≡ 3 * v + k → k < 3 → coordinate (corner_at F.bytes.now c) k ≡ point_item F.bytes.now i
  unfolding point_item
  point_number h e q i k z l =
      let d : i / 3 ≡ v = omega arith in
      let m : i % 3 ≡ k = omega arith in
      let w : corner_of F.bytes.now v ≡ c = rw q (corner_of_lem F.bytes.now c (omega (arith, F.counted)) e) in
      rw (d, m, w)

  point_put : c < 3 * F.triangles → is_first F.bytes.now c ≡ true → v ≡ count_below (is_first F.bytes.now) c → P ≡ filled (point_item F.bytes.now) (3 * v) P → 3 * v + 3 ≤ length P → put_point P v (corner_at F.bytes.now c) ≡ filled (point_item F.bytes.now) (3 * (v + 1)) P
  unfolding put_point
  point_put h e q p l =
      let a = corner_at F.bytes.now c in
      let f = point_item F.bytes.now in
      let n = point_number h e q in
      let one = filled_again f (3 * v) P P (coordinate a 0) p (omega arith) (n (3 * v) 0 (omega arith) (omega arith)) in
      let two = filled_again f (3 * v + 1) _ P (coordinate a 1) one (omega arith) (n (3 * v + 1) 1 refl (omega arith)) in
      let third : 3 * v + 1 + 1 ≡ 3 * v + 2 = omega arith in
      let three = filled_again f (3 * v + 2) _ P (coordinate a 2) (rw third at two) (omega arith) (n (3 * v + 2) 2 refl (omega arith)) in
      let end : 3 * v + 2 + 1 ≡ 3 * (v + 1) = omega arith in
      rw end at three

module _ (F : File) (c : ℕ) (L : List ℤ) (here : c < 3 * F.triangles) (room : 12 * F.triangles ≤ length L) where
  start_in : c * halfedge_stride < length L
  start_in = omega arith

  start_put : (x : ℤ) → Starts F.bytes.now c L → x ≡ pos (point_of F.bytes.now c) → Starts F.bytes.now (suc c) (set L (c * halfedge_stride) x)
  start_put x h e i l = go (eq-or-lt_of_le (let z : i ≤ c = omega arith in z))
    where
      go : (i ≡ c) ⊎ (i < c) → get_or (set L (c * halfedge_stride) x) (i * halfedge_stride) (pos 0) ≡ pos (point_of F.bytes.now i)
      go (inl q) = rw q (get_or-set_same L (c * halfedge_stride) x (pos 0) start_in ∙ e)
      go (inr q) = get_or-set_other L (c * halfedge_stride) (i * halfedge_stride) x (pos 0) (λ z. omega arith) ∙ h i q

  start_further : (x : ℤ) → Further (3 * F.triangles * halfedge_stride) L (set L (c * halfedge_stride) x)
  start_further x = (length-set L (c * halfedge_stride) x, λ i l. get_or-set_other L (c * halfedge_stride) i x (pos 0) (λ z. omega arith))

pub written_none : (F : File) (P : List Float) (L : List ℤ) → Written F 0 0 P P L L
written_none F P L =
    record {
      counted = count_start (is_first F.bytes.now);
      pos = filled_none (point_item F.bytes.now) P;
      starts = λ i h. absurd (omega arith);
      further = (refl, λ i h. refl);
    }

-- what was written since P₀ and L₀ is written in P and L
pub written_self : {F : File} {c v : ℕ} {P₀ P : List Float} {L₀ L : List ℤ} → Written F c v P₀ P L₀ L → Written F c v P P L L
written_self {F} {c} {v} {P₀} {P} h =
    record {
      counted = h.counted;
      pos = filled_self (point_item F.bytes.now) (3 * v) P₀ P h.pos;
      starts = h.starts;
      further = (refl, λ i h. refl);
    }

-- the one writing after the other
pub written_more : {F : File} {c c' v v' : ℕ} {P₀ P P' : List Float} {L₀ L L' : List ℤ} → Written F c v P₀ P L₀ L → Written F c' v' P P' L L' → c ≤ c' → Written F c' v' P₀ P' L₀ L'
written_more {F} {c} {c'} {v} {v'} {P₀} {P} {P'} h k l =
    let m : 3 * v ≤ 3 * v' = omega (arith, h.counted, k.counted, count_mono (is_first F.bytes.now) c c' l) in
    record {
      counted = k.counted;
      pos = filled_more (point_item F.bytes.now) (3 * v) (3 * v') P₀ P P' m h.pos k.pos;
      starts = k.starts;
      further = (k.further.0 ∙ h.further.0, λ i g. k.further.1 i g ∙ h.further.1 i g);
    }

-- ---- a block
module _ {B : Block} {first : List ℕ} {P₀ : List Float} {L₀ : List ℤ} where
  -- its first halfedge
  pub can_block : {P : List Float} {L : List ℤ} {v : ℕ} → B.keys ≡ Points → Marked B 0 first → B.count ≤ length first → 0 < B.count → Written B.file B.lo v P₀ P L₀ L → 9 * B.file.triangles ≤ length P → 12 * B.file.triangles ≤ length L → CanStart B first 0 v P L
  can_block e m l i w p h =
      let z : B.lo ≡ B.lo + 0 = omega arith in
      record {
        points_keys = e;
        marked = m;
        long = l;
        inside = i;
        written = written_self (rw z at w);
        pos_room = p;
        h_room = h;
      }

  -- and the others, after those below k
  pub can_next : {k v₀ v : ℕ} {P : List Float} {L : List ℤ} → CanStart B first 0 v₀ P₀ L₀ → Written B.file (B.lo + k) v P₀ P L₀ L → k < B.count → length P ≡ length P₀ → CanStart B first k v P L
  can_next h w i l =
      record {
        points_keys = h.points_keys;
        marked = h.marked;
        long = h.long;
        inside = i;
        written = written_self w;
        pos_room = omega (arith, h.pos_room);
        h_room = omega (arith, h.h_room, w.further.0);
      }

-- ---- a halfedge
module _ {B : Block} {first : List ℕ} {k v : ℕ} {P : List Float} {L : List ℤ} (h : CanStart B first k v P L) where
  in_file : B.lo + k < 3 * B.file.triangles
  in_file = omega (arith, h.inside, B.within)

  -- there are no more points than corners
  pub points_below : v ≤ B.lo + k
  points_below = omega (arith, h.written.counted, count_within (is_first B.file.bytes.now) (B.lo + k))

  pub number_fits : v + 1 < 2 ^ 31
  number_fits = omega (arith, points_below, in_file, B.file.few)

  pub room : 3 * v + 3 ≤ length P
  room = omega (arith, points_below, in_file, h.pos_room)

  pub lower_in : get_or first k 0 * halfedge_stride < length L
  lower_in = omega (arith, mark_below B first h.points_keys h.marked k h.inside, in_file, h.h_room)

  next : B.lo + (k + 1) ≡ suc (B.lo + k)
  next = omega arith

  -- a corner that is the first of its point
  pub written_first : {P' : List Float} {a : Corner} → get_or first k 0 ≡ B.lo + k → P' ≡ put_point P v a → a ≡ corner_at B.file.bytes.now (B.lo + k) → Written B.file (B.lo + (k + 1)) (v + 1) P P' L (set L ((B.lo + k) * halfedge_stride) (to_z w32 v))
  written_first {P'} {a} e p q =
      let s = B.file.bytes.now in
      let c = B.lo + k in
      let w = h.written in
      let f = mark_first B first h.points_keys h.marked k h.inside e in
      record {
        counted = rw next (omega (arith, w.counted, count_yes (is_first s) c f));
        pos = p ∙ rw q (point_put B.file c v P in_file f w.counted w.pos room);
        starts = rw next (start_put B.file c L in_file h.h_room (to_z w32 v) w.starts (signed v (omega (arith, number_fits)) ∙ ap pos (w.counted ∙ sym (first_number s c f))));
        further = start_further B.file c L in_file h.h_room (to_z w32 v);
      }

  -- and another one
  pub written_later : (get_or first k 0 ≡ B.lo + k → ⊥) → Written B.file (B.lo + (k + 1)) v P P L (set L ((B.lo + k) * halfedge_stride) (to_z w32 (of_z w32 (get_or L (get_or first k 0 * halfedge_stride) (pos 0)))))
  written_later e =
      let s = B.file.bytes.now in
      let c = B.lo + k in
      let r = get_or first k 0 in
      let w = h.written in
      let b = mark_below B first h.points_keys h.marked k h.inside in
      let x : get_or L (r * halfedge_stride) (pos 0) ≡ pos (point_of s c) = w.starts r (omega arith) ∙ ap pos (same_number s r c (mark_corner B first h.points_keys h.marked k h.inside)) in
      let y : to_z w32 (of_z w32 (get_or L (r * halfedge_stride) (pos 0))) ≡ pos (point_of s c) = signed_again (point_of s c) x (omega (arith, number_within s c, in_file, B.file.few)) in
      record {
        counted = rw next (omega (arith, w.counted, count_no (is_first s) c (mark_later B first h.points_keys h.marked k h.inside e)));
        pos = w.pos;
        starts = rw next (start_put B.file c L in_file h.h_room _ w.starts y);
        further = start_further B.file c L in_file h.h_room _;
      }
