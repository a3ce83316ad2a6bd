-- What a halfedge leads back to in a block of edges: the lowest halfedge whose directed edge is its reverse. Assumes nothing.
use Prim.Native.Nat.{ℕ, ◌+◌, ◌*◌, ◌≤◌, ◌<◌}
use native.Mathlib.Omega.{arith}
use native.Mathlib.Nat.{eq-or-lt_of_le}
use mathlib.Core.Path.{◌≡◌, ap, ◌∙◌}
use mathlib.Core.List.{List}
use mathlib.Core.Logic.{◌⊎◌, inl, inr, ⊎_elim}
use mathlib.Core.Bool.{true, false, not}
use Rattle.std.proofs.lemmas.Bool.{not-false}
use Rattle.mesh.specs.Mesh.{next_halfedge}
use Rattle.mesh.proofs.Halfedges.{next_cases}
use Rattle.common.proofs.Lowest.{lowest_found, lowest_least}
use Rattle.stl.specs.declared.file.Triangle.{Triangle}
use Rattle.stl.specs.File.File.{triangle_at}
use Rattle.stl.specs.File.Edges.{same_edge, is_reverse, is_paired}
use Rattle.stl.proofs.FileLaws.Edges.{reverse_corners, corners_reverse, edge_corners, reverse_back, reverses_same, twice_bad}
use Rattle.stl.specs.Table.Keys.{key_at, same_key, has_key, first_at}
use Rattle.stl.specs.declared.table.Key.{Key}
use Rattle.stl.specs.declared.table.Keys.TheVariants.{Edges}
use Rattle.stl.specs.declared.table.block.Block.{Block}
use Rattle.stl.proofs.TableLaws.SameKey.{key_equal, key_same}
use Rattle.stl.specs.Pairs.Twins.{reverse_key, back_at}

-- the keys of the reverses of a triangle's directed edges
module _ (s : List ℕ) (t : ℕ) {corners : Triangle} (e : corners ≡ triangle_at s t) where
  pub triangle_first : ◌≡◌ {A = Key} (record { start = corners.b; end = corners.a }) (reverse_key s (3 * t))
  unfolding triangle_at
  triangle_first = let q : next_halfedge (3 * t) ≡ 3 * t + 1 = ⊎_elim (λ w. omega arith) (λ w. omega arith) (next_cases (3 * t)) in rw (e, q)

  pub triangle_second : ◌≡◌ {A = Key} (record { start = corners.c; end = corners.b }) (reverse_key s (3 * t + 1))
  unfolding triangle_at
  triangle_second = let q : next_halfedge (3 * t + 1) ≡ 3 * t + 2 = ⊎_elim (λ w. omega arith) (λ w. omega arith) (next_cases (3 * t + 1)) in rw (e, q)

  pub triangle_third : ◌≡◌ {A = Key} (record { start = corners.a; end = corners.c }) (reverse_key s (3 * t + 2))
  unfolding triangle_at
  triangle_third = let q : next_halfedge (3 * t + 2) ≡ 3 * t = ⊎_elim (λ w. omega arith) (λ w. omega arith) (next_cases (3 * t + 2)) in rw (e, q)

-- what is found with the key is where f leads back to
pub found_back : (B : Block) (f : ℕ) {key : Key} {r : ℕ} → key ≡ reverse_key B.file.bytes.now f → r ≡ first_at B key B.count → r ≡ back_at B f
unfolding back_at
found_back B f e q = q ∙ ap (λ (k : Key). first_at B k B.count) e

key_reverse : (s : List ℕ) (e f : ℕ) → same_key (key_at s Edges e) (reverse_key s f) ≡ true → is_reverse s e f ≡ true
unfolding key_at
key_reverse s e f h =
    let q = key_equal (key_at s Edges e) (reverse_key s f) h in
    corners_reverse s e f (ap (λ (k : Key). k.start) q) (ap (λ (k : Key). k.end) q)

reverse_has : (s : List ℕ) (e f : ℕ) → is_reverse s e f ≡ true → same_key (key_at s Edges e) (reverse_key s f) ≡ true
unfolding key_at
reverse_has s e f r = let p = reverse_corners s e f r in rw (p.0, p.1) (key_same (reverse_key s f))

-- halfedges with one directed edge lead back to one halfedge
pub back_same : (B : Block) (f g : ℕ) → same_edge B.file.bytes.now f g ≡ true → back_at B f ≡ back_at B g
unfolding back_at
back_same B f g q = let p = edge_corners B.file.bytes.now f g q in rw (p.0, p.1)

module _ (B : Block) (edges : B.keys ≡ Edges) where
  has_reverse : (f k : ℕ) → has_key B (reverse_key B.file.bytes.now f) k ≡ true → is_reverse B.file.bytes.now (B.lo + k) f ≡ true
  has_reverse f k h = key_reverse B.file.bytes.now (B.lo + k) f (rw edges at h)

  pub back_reverse : (f : ℕ) → back_at B f < B.count → is_reverse B.file.bytes.now (B.lo + back_at B f) f ≡ true
  unfolding back_at
  back_reverse f h = has_reverse f _ (not-false _ (lowest_found (λ k. not (has_key B (reverse_key B.file.bytes.now f) k)) B.count h))

  pub back_least : (f k : ℕ) → is_reverse B.file.bytes.now (B.lo + k) f ≡ true → back_at B f ≤ k
  unfolding back_at
  back_least f k r = lowest_least (λ k. not (has_key B (reverse_key B.file.bytes.now f) k)) B.count k (rw (edges, reverse_has B.file.bytes.now (B.lo + k) f r))

  -- of two that lead back to one, each has the directed edge of the other
  pub back_double : (f g : ℕ) → back_at B f < B.count → back_at B f ≡ back_at B g → same_edge B.file.bytes.now f g ≡ true
  back_double f g h e =
      let l : back_at B g < B.count = omega arith in
      reverses_same B.file.bytes.now (B.lo + back_at B g) f g (rw e at (back_reverse f h)) (back_reverse g l)

  -- a halfedge that f does not lead back to, but a lower one, has a double
  pub lower_bad : (k f : ℕ) → k < B.count → is_reverse B.file.bytes.now (B.lo + k) f ≡ true → back_at B f < k → is_paired B.file.bytes.now (B.lo + k) ≡ false
  lower_bad k f h r l =
      let s = B.file.bytes.now in
      let j = back_at B f in
      let a = back_reverse f (omega arith) in
      twice_bad s (B.lo + k) (B.lo + j) (omega (arith, B.within, B.file.counted)) (omega (arith, B.within, B.file.counted)) (λ z. omega arith) (reverses_same s f (B.lo + k) (B.lo + j) (reverse_back s (B.lo + k) f r) (reverse_back s (B.lo + j) f a))

  pub back_is : (k f : ℕ) → k < B.count → is_reverse B.file.bytes.now (B.lo + k) f ≡ true → is_paired B.file.bytes.now (B.lo + k) ≡ true → back_at B f ≡ k
  back_is k f h r p = go (eq-or-lt_of_le (back_least f k r))
    where
      go : (back_at B f ≡ k) ⊎ (back_at B f < k) → back_at B f ≡ k
      go (inl e) = e
      go (inr l) = let b = lower_bad k f h r l in let z : ◌≡◌ {A = ℕ} 0 1 = cc in absurd (omega arith)
