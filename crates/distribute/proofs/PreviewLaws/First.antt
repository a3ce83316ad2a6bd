-- The loop over a preview's first walk: spreading's first walk goes along, with the angles that the preview leaves out.
use mathlib.Core.Path.{◌≡◌, refl, ap, ◌∙◌}
use mathlib.Core.Bool.{Bool, true, false, cond}
use mathlib.Core.List.{List}
use Prim.Native.Nat.{ℕ, ◌+◌, ◌≤◌, ◌<◌}
use lib.ListN.{length-append}
use lib.Ieee.{Float}
use Rattle.float.specs.Ops.{zero}
use Rattle.linalg.specs.declared.Vec3.{Vec3}
use Rattle.mesh.specs.Mesh.{as_halfedges, Halfedges}
use Rattle.cycles.specs.Cycles.{next_around}
use Rattle.smoothing.specs.Lists.{tangent_at}
use Rattle.distribute.specs.Spread.Steps.{Steps}
use Rattle.distribute.specs.Spread.Spread.{Found}
use Rattle.distribute.proofs.SpreadLaws.Loops.{first_left}
use Rattle.distribute.proofs.SpreadLaws.Bodies.{FirstGoing, first_going, first_next, first_less, first_over}
use Rattle.distribute.specs.Steps.FloatSteps.{Gathered, is_mark, is_start, tangent_direction, begin, gather, gather_edge}
use Rattle.distribute.specs.Walks.Walks.{first_from}
use Rattle.distribute.specs.Preview.Walks.{steps_at, summed_of, add_tangent}
use Rattle.distribute.specs.declared.preview.walks.Summed.{Summed}
use Rattle.distribute.specs.declared.walks.lists.SpreadLists.{SpreadLists}
use Rattle.distribute.proofs.PreviewLaws.Lawful.{laws_at}

-- what is gathered of one halfedge more, summed
summed_more : (H : Halfedges) (P N : List Float) (T : List Float) (start y : ℕ) (s : Summed) (g : Gathered) → s ≡ summed_of g
    → add_tangent (tangent_direction (tangent_at T y)) s ≡ summed_of (gather H P N start y (tangent_at T y) g)
unfolding add_tangent gather_edge
summed_more H P N T start y s g e = rw e (rw (length-append g.current_angle _) refl)

module _ (lists : SpreadLists) (P N T : List Float) (start looked₀ : ℕ) where
  abbrev H : Halfedges
  H = as_halfedges lists.h.now

  abbrev steps : Steps
  steps = steps_at lists P N

  -- the walk has come to x, with s summed of what spreading's has gathered
  pub record Summing (x looked : ℕ) (s : Summed) : Type 0 where
    pub gathered : Gathered
    pub going : FirstGoing steps T start looked₀ (begin H P start (tangent_at T start)) x looked s.count gathered
    pub sums : s ≡ summed_of gathered

  pub summing_begin : start < lists.n → is_start lists.fixed.now T start ≡ true → (first : Vec3) → first ≡ tangent_direction (tangent_at T start)
      → Summing start looked₀ (record { count = 0; normal = record { x = zero; y = zero; z = zero }; last_tangent = first })
  unfolding begin
  summing_begin b d first e = record { gathered = begin H P start (tangent_at T start); going = first_going (laws_at lists P N) b d refl refl; sums = rw e }

  module _ {x looked : ℕ} {s : Summed} (w : Summing x looked s) where
    module _ {y : ℕ} (e : y ≡ next_around H x) where
      module _ {s' : Summed} (es : s' ≡ cond (is_mark (tangent_at T y).w) s (add_tangent (tangent_direction (tangent_at T y)) s)) where
        gathered' : Gathered
        gathered' = cond (is_mark (tangent_at T y).w) w.gathered (gather H P N start y (tangent_at T y) w.gathered)

        count_is : s'.count ≡ cond (is_mark (tangent_at T y).w) s.count (s.count + 1)
        unfolding add_tangent
        count_is = go (is_mark (tangent_at T y).w) es
          where
            go : (b : Bool) → s' ≡ cond b s (add_tangent (tangent_direction (tangent_at T y)) s) → s'.count ≡ cond b s.count (s.count + 1)
            go true q = ap (λ (z : Summed). z.count) q
            go false q = ap (λ (z : Summed). z.count) q

        sums_are : s' ≡ summed_of gathered'
        unfolding gathered'
        sums_are = es ∙ go (is_mark (tangent_at T y).w)
          where
            go : (b : Bool)
                → cond b s (add_tangent (tangent_direction (tangent_at T y)) s) ≡ summed_of (cond b w.gathered (gather H P N start y (tangent_at T y) w.gathered))
            go true = w.sums
            go false = summed_more H P N T start y s w.gathered w.sums

        pub summing_next : is_start lists.fixed.now T y ≡ false → Summing y (looked + 1) s'
        unfolding gathered'
        summing_next d = record { gathered = gathered'; going = first_next (laws_at lists P N) w.going e refl count_is d; sums = sums_are }

        pub summing_less : is_start lists.fixed.now T y ≡ false → first_left steps T y < first_left steps T x
        unfolding gathered'
        summing_less d = first_less (laws_at lists P N) w.going e {g' = gathered'} refl count_is d

        -- it ends at y
        pub summing_over : is_start lists.fixed.now T y ≡ true
            → (looked + 1 ≡ (first_from H P N lists.fixed.now lists.n T start looked₀).looked) × (s' ≡ summed_of (first_from H P N lists.fixed.now lists.n T start looked₀).gathered) × (looked + 1 ≤ looked₀ + lists.n)
        unfolding gathered'
        summing_over d =
            let o = first_over (laws_at lists P N) w.going e {g' = gathered'} refl count_is d in (
              ap (λ (f : Found steps). f.looked) o.found,
              sums_are ∙ ap (λ (f : Found steps). summed_of f.gathered) o.found,
              o.few,
            )
