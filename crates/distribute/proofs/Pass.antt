-- The loop over the halfedges, as the code holds its state: before each turn, what is left of the pass gives the whole.
use mathlib.Core.Path.{ap}
use mathlib.Core.List.{List, []}
use Prim.Native.Nat.{ℕ, ◌+◌, ◌≤◌, ◌<◌}
use native.Mathlib.Numerals.{add-one}
use Rattle.distribute.specs.Spread.Steps.{Steps}
use Rattle.distribute.specs.Spread.Spread.{State, spread_at, pass}
use Rattle.distribute.proofs.SpreadLaws.Branches.{PassLeft, left_all, left_next, left_none}
use Rattle.distribute.specs.Walks.Walks.{state_of, Gives}
use Rattle.distribute.specs.declared.walks.Counts.{Counts}
use Rattle.distribute.specs.Distribute.{Reports}

-- before the turn s
pub record PassAt (S : Steps) (ts₀ : S.Tangents) (s : ℕ) (ts : S.Tangents) (k : Counts) : Type 0 where
  pub places : List ℕ
  pub left : PassLeft S ts₀ s (state_of S ts k places)

module _ (S : Steps) where
  open S use {Tangents, n}

  pub pass_begin : (ts : Tangents) → PassAt S ts 0 ts (record { looked = 0; turned = 0 })
  pass_begin ts = record { places = []; left = left_all S ts }

  pub pass_next : {ts₀ ts ts' : Tangents} {k k' : Counts} {s : ℕ} → s < n → PassAt S ts₀ s ts k → Gives S (spread_at S s) ts k ts' k' → PassAt S ts₀ (s + 1) ts' k'
  pass_next {ts₀} {ts} {ts'} {k} {k'} {s} l w g = record {
    places = (g w.places).0;
    left = rw (add-one s) (rw (g w.places).1 at (left_next S ts₀ s (state_of S ts k w.places) l w.left));
  }

  pub pass_done : {ts₀ ts : Tangents} {k : Counts} {s : ℕ} → n ≤ s → PassAt S ts₀ s ts k → Reports S (pass S ts₀) ts k
  pass_done {ts₀} {ts} {k} {s} l w =
      let e = left_none S ts₀ s (state_of S ts k w.places) l w.left in
      record {
        tangents_are = ap (λ (x : State S). x.tangents) e;
        looked_is = ap (λ (x : State S). x.looked) e;
        turned_is = ap (λ (x : State S). x.turned) e;
      }
