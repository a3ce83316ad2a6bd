-- The loop over the halfedges: the bytes and counts are those of the state that spreading's own pass has come to, though that works on tangents which the starts before wrote.
use mathlib.Core.Path.{◌≡◌, refl, sym, ap, ◌∙◌}
use mathlib.Core.List.{List}
use Prim.Native.Nat.{ℕ, ◌+◌, ◌≤◌, ◌<◌}
use native.Mathlib.Numerals.{add-one}
use lib.ListN.{replicate}
use Rattle.cycles.specs.Count.{count}
use Rattle.distribute.specs.Spread.Steps.{Steps, Lawful}
use Rattle.distribute.specs.Spread.Spread.{State, spread_at, handed_in, pass}
use Rattle.distribute.proofs.SpreadLaws.Turns.{SameCounts}
use Rattle.distribute.proofs.SpreadLaws.Order.{PassAt, pass_begin, pass_next, pass_apart, pass_end}
use Rattle.distribute.specs.declared.walks.Counts.{Counts}
use Rattle.distribute.specs.Preview.Walks.{Shows, Previews}
use Rattle.distribute.proofs.PreviewLaws.Bytes.{bytes_none, bytes_same}

module _ {S : Steps} (L : Lawful S) (ts : S.Tangents) (whole : L.Whole ts) where
  open S use {n}

  -- before the halfedge i
  pub record ShownAt (i : ℕ) (Y : List ℕ) (k : Counts) : Type 0 where
    pub state : State S
    pub at : PassAt L ts whole i state
    pub shows : Shows S state Y k

  pub shown_begin : (m : ℕ) → m ≡ n → {Y : List ℕ} → Y ≡ replicate m 0 → ShownAt 0 Y (record { looked = 0; turned = 0 })
  shown_begin m q e = record {
    state = handed_in S ts;
    at = pass_begin L ts whole;
    shows = record { bytes_are = e ∙ bytes_none S ts m q; looked_is = refl; turned_is = refl };
  }

  shows_same : {st sv : State S} {Y : List ℕ} {k : Counts} → SameCounts S st sv → Shows S sv Y k → Shows S st Y k
  shows_same {st} {sv} c s = record {
    bytes_are = s.bytes_are ∙ bytes_same S sv st (λ e. ap (count e) (sym c.places));
    looked_is = s.looked_is ∙ sym c.looked;
    turned_is = s.turned_is ∙ sym c.turned;
  }

  -- a start reads no tangent that another wrote, so what it does to the tangents handed in tells what it does in the pass
  pub shown_next : {i : ℕ} {Y Y' : List ℕ} {k k' : Counts} → i < n → ShownAt i Y k → Previews S (spread_at S i) ts Y k Y' k' → ShownAt (i + 1) Y' k'
  shown_next {i} {Y} {Y'} {k} {k'} b w f = rw (add-one i) record {
    state = spread_at S i w.state;
    at = pass_next L ts whole w.at b;
    shows = shows_same (pass_apart L ts whole w.at b) (rw (w.shows.looked_is, w.shows.turned_is) at (f w.state.places w.shows.bytes_are));
  }

  pub shown_end : {i : ℕ} {Y : List ℕ} {k : Counts} → n ≤ i → ShownAt i Y k → Shows S (pass S ts) Y k
  shown_end l w = rw (← pass_end L ts whole w.at l) w.shows
