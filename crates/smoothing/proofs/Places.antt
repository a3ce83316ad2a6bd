-- A loop that writes a value at each halfedge, one by one or edge by edge: what it leaves is the value at each, whatever was there. `put` writes a place and `get` reads it. Assumes nothing.
use Prim.Native.Nat.{ℕ, zero, suc, ◌*◌, ◌<◌, ◌≤◌}
use native.Mathlib.Omega.{arith}
use mathlib.Core.Path.{◌≡◌, refl, sym, ap, ◌∙◌}
use mathlib.Core.List.{List}
use mathlib.Core.Bool.{Bool, true, false, cond, not}
use borrow.Author.Tests.{eqb-true, eqb-false}
use lib.ListN.{length}
use lib.Dec.{eqb}
use lib.Ieee.{Float}
use Rattle.mesh.specs.Mesh.{paired_halfedge, is_forward, Halfedges}
use Rattle.common.specs.Fold.{fold_to}
use Rattle.mesh.specs.Sound.{Sound}
use Rattle.mesh.proofs.Pairs.{one_forward}
use Rattle.smoothing.specs.Lists.{tangent_at, put_tangent}
use Rattle.smoothing.specs.Inner.{put_edge}
use Rattle.smoothing.proofs.Tangents.{length_put, tangent_put_same, tangent_put_other, same_tangents}

-- n places of which each is written by itself, and which are all that there is
pub record Places {S W : Type 0} (put : S → ℕ → W → S) (get : S → ℕ → W) (Whole : S → Type 0) (n : ℕ) : Type 0 where
  pub whole_put : (s : S) (e : ℕ) (v : W) → Whole s → Whole (put s e v)
  pub put_same : (s : S) (e : ℕ) (v : W) → Whole s → e < n → get (put s e v) e ≡ v
  pub put_other : (s : S) (e : ℕ) (v : W) (d : ℕ) → (d ≡ e → ⊥) → get (put s e v) d ≡ get s d
  pub same_all : (s t : S) → Whole s → Whole t → ((e : ℕ) → e < n → get s e ≡ get t e) → s ≡ t

pub tangent_places : (n : ℕ) → Places put_tangent tangent_at (λ (T : List Float). length T ≡ n * 4) n
tangent_places n = record {
  whole_put = λ T e v w. length_put T e v ∙ w;
  put_same = λ T e v w h. tangent_put_same T e v (omega arith);
  put_other = tangent_put_other;
  same_all = same_tangents n;
}

module _ {S W : Type 0} {put : S → ℕ → W → S} {get : S → ℕ → W} {Whole : S → Type 0} {n : ℕ} (places : Places put get Whole n) (v : ℕ → W) where
  abbrev each : S → ℕ → S
  each s e = put s e (v e)

  -- the place k has its value, and the others keep theirs
  each_turn : (s : S) (k x : ℕ) → Whole s → k < n → ((x ≡ k → ⊥) → get s x ≡ v x) → get (each s k) x ≡ v x
  each_turn s k x w h before = go (eqb x k) refl
    where
      go : (b : Bool) → eqb x k ≡ b → get (each s k) x ≡ v x
      go true q = let p : x ≡ k = eqb-true x k q in rw p (places.put_same s k (v k) w h)
      go false q = places.put_other s k (v k) x (eqb-false x k q) ∙ before (eqb-false x k q)

  -- ---- one by one

  each_whole : (s : S) → Whole s → (k : ℕ) → Whole (fold_to each s k)
  unfolding fold_to
  each_whole s w zero = w
  each_whole s w (suc k) = places.whole_put (fold_to each s k) k (v k) (each_whole s w k)

  pub each_at : (s : S) → Whole s → (k : ℕ) → k ≤ n → (x : ℕ) → x < k → get (fold_to each s k) x ≡ v x
  unfolding fold_to
  each_at s w zero h x l = absurd (omega arith)
  each_at s w (suc k) h x l =
      each_turn (fold_to each s k) k x (each_whole s w k) h (λ d. each_at s w k (omega arith) x (omega arith))

  pub each_same : (s t : S) → Whole s → Whole t → fold_to each s n ≡ fold_to each t n
  each_same s t a b =
      places.same_all (fold_to each s n) (fold_to each t n) (each_whole s a n) (each_whole t b n)
      (λ x l. each_at s a n (omega arith) x l ∙ sym (each_at t b n (omega arith) x l))

  -- ---- edge by edge

  module _ {H : Halfedges} {p : ℕ} (sound : Sound H n p) where
    both_turn : (s : S) (k x : ℕ) → Whole s → k < n → ((x ≡ k → ⊥) → (x ≡ paired_halfedge H k → ⊥) → get s x ≡ v x) → get (each (each s k) (paired_halfedge H k)) x ≡ v x
    both_turn s k x w h before =
        each_turn (each s k) (paired_halfedge H k) x (places.whole_put s k (v k) w) (sound.paired_below k h)
        (λ j. each_turn s k x w h (λ i. before i j))

    edge_whole : (s : S) (k : ℕ) → Whole s → Whole (put_edge put H v s k)
    unfolding put_edge
    edge_whole s k w = go (is_forward H k)
      where
        go : (b : Bool) → Whole (cond b (each (each s k) (paired_halfedge H k)) s)
        go true = places.whole_put (each s k) (paired_halfedge H k) (v (paired_halfedge H k)) (places.whole_put s k (v k) w)
        go false = w

    -- a value that is there stays
    edge_keeps : (s : S) (k x : ℕ) → Whole s → k < n → get s x ≡ v x → get (put_edge put H v s k) x ≡ v x
    unfolding put_edge
    edge_keeps s k x w h q = go (is_forward H k)
      where
        go : (b : Bool) → get (cond b (each (each s k) (paired_halfedge H k)) s) x ≡ v x
        go true = both_turn s k x w h (λ i j. q)
        go false = q

    -- halfedge d and its pair have theirs
    abbrev Both : S → ℕ → Type 0
    Both s d = (get s d ≡ v d) × (get s (paired_halfedge H d) ≡ v (paired_halfedge H d))

    edge_puts : (s : S) (k : ℕ) → Whole s → k < n → is_forward H k ≡ true → Both (put_edge put H v s k) k
    unfolding put_edge
    edge_puts s k w h f =
        rw f (both_turn s k k w h (λ i j. absurd (i refl)), both_turn s k (paired_halfedge H k) w h (λ i j. absurd (j refl)))

    edge_turn : (s : S) (k d : ℕ) → Whole s → k < n → is_forward H d ≡ true → ((d ≡ k → ⊥) → Both s d) → Both (put_edge put H v s k) d
    edge_turn s k d w h f before = go (eqb d k) refl
      where
        go : (b : Bool) → eqb d k ≡ b → Both (put_edge put H v s k) d
        go true q = let e : d ≡ k = eqb-true d k q in rw e (edge_puts s k w h (rw e at f))
        go false q =
            let there = before (eqb-false d k q) in
            (edge_keeps s k d w h there.0, edge_keeps s k (paired_halfedge H d) w h there.1)

    edges_whole : (s : S) → Whole s → (k : ℕ) → Whole (fold_to (put_edge put H v) s k)
    unfolding fold_to
    edges_whole s w zero = w
    edges_whole s w (suc k) = edge_whole (fold_to (put_edge put H v) s k) k (edges_whole s w k)

    edges_at : (s : S) → Whole s → (k : ℕ) → k ≤ n → (d : ℕ) → d < k → is_forward H d ≡ true → Both (fold_to (put_edge put H v) s k) d
    unfolding fold_to
    edges_at s w zero h d l f = absurd (omega arith)
    edges_at s w (suc k) h d l f =
        edge_turn (fold_to (put_edge put H v) s k) k d (edges_whole s w k) h f (λ x. edges_at s w k (omega arith) d (omega arith) f)

    edges_all : (s : S) → Whole s → (x : ℕ) → x < n → get (fold_to (put_edge put H v) s n) x ≡ v x
    edges_all s w x l = go (is_forward H x) refl
      where
        go : (b : Bool) → is_forward H x ≡ b → get (fold_to (put_edge put H v) s n) x ≡ v x
        go true f = (edges_at s w n (omega arith) x l f).0
        go false f =
            let r = (edges_at s w n (omega arith) (paired_halfedge H x) (sound.paired_below x l) (one_forward sound x l ∙ ap not f)).1 in
            rw (sound.paired_back x l) at r

    -- the loop over the edges is that over the halfedges
    pub edges_same : (s t : S) → Whole s → Whole t → fold_to (put_edge put H v) s n ≡ fold_to each t n
    edges_same s t a b =
        places.same_all (fold_to (put_edge put H v) s n) (fold_to each t n) (edges_whole s a n) (each_whole t b n)
        (λ x l. edges_all s a x l ∙ sym (each_at t b n (omega arith) x l))
