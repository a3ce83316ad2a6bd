-- One turn of the loop over the halfedges, as the code holds its state: a start is passed over, or both its walks go.
use mathlib.Core.Path.{◌≡◌, sym, ap, ◌∙◌}
use mathlib.Core.Bool.{true, false}
use Prim.Native.Nat.{ℕ, suc}
use Rattle.distribute.specs.Spread.Steps.{Steps}
use Rattle.distribute.specs.Spread.Spread.{Found, first_walk, second_walk, spread_at}
use Rattle.distribute.proofs.SpreadLaws.Branches as Branches
use Rattle.distribute.proofs.SpreadLaws.Places.{is_stop}
use Rattle.distribute.specs.Walks.Walks.{state_of, Gives}
use Rattle.distribute.specs.declared.walks.Counts.{Counts}

module _ (S : Steps) (ts : S.Tangents) (start : ℕ) (k : Counts) where
  open S use {Tangents, Plan, n, read, begin, turns_none, plan}

  -- not fixed, or marked: passed over
  pub at_none : is_stop S ts start ≡ false → Gives S (spread_at S start) ts k ts k
  at_none d places = (places, Branches.at_none S start (state_of S ts k places) d)

  -- a start, from which the first walk found f
  module _ (d : is_stop S ts start ≡ true) (f : Found S) (e : f ≡ first_walk S (suc n) ts start start k.looked (begin start (read ts start))) where
    abbrev seen : Counts
    seen = record { looked = f.looked; turned = k.turned }

    pub at_first : turns_none f.gathered ≡ true → Gives S (spread_at S start) ts k ts seen
    at_first t places = (places, Branches.at_first S start (state_of S ts k places) d f e t)

    pub at_both : turns_none f.gathered ≡ false → {by : Plan} → by ≡ plan start f.last f.gathered → {ts' : Tangents} {k' : Counts}
        → Gives S (second_walk S (suc n) start start by) ts seen ts' k' → Gives S (spread_at S start) ts k ts' k'
    at_both t q more places = (
      (more places).0,
      Branches.at_both S start (state_of S ts k places) d f e t
          ∙ ap (λ (x : Plan). second_walk S (suc n) start start x (state_of S ts seen places)) (sym q)
          ∙ (more places).1,
    )
