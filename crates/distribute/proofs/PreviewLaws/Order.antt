-- The order rule of the call, from what it answers and leaves; and that its answer is that of spreading.
use mathlib.Core.Path.{◌≡◌, sym, ap, ◌∙◌}
use mathlib.Core.Bool.{Bool}
use mathlib.Core.Logic.{◌⊎◌, inl, inr}
use mathlib.Core.List.{List}
use Prim.Native.Nat.{ℕ, ◌<◌}
use lib.ListN.{get_or}
use lib.Ieee.{Float}
use Rattle.mesh.specs.Mesh.{Halfedges}
use Rattle.questions.specs.Check.{answer_of}
use Rattle.cycles.specs.Count.{count, ◌∈◌}
use Rattle.cycles.proofs.Count.{zero_or_more}
use Rattle.distribute.specs.Spread.Steps.{Steps, Lawful}
use Rattle.distribute.specs.Spread.Spread.{spread, pass}
use Rattle.distribute.specs.Spread.Order.{NamesFixed, WasTurned, OrderFree}
use Rattle.distribute.proofs.SpreadLaws.Order.{order_free}
use Rattle.distribute.proofs.WalksLaws.Lawful.{lawful}
use Rattle.distribute.specs.Distribute as Distribute
use Rattle.distribute.specs.Distribute.{check_with, Spreading, counts_of, spread_tangents}
use Rattle.std.specs.Prelude.{Ok}
use Rattle.distribute.specs.Steps.FloatSteps.{float_steps}
use Rattle.distribute.specs.declared.walks.Counts.{Counts}
use Rattle.distribute.specs.Preview.Walks.{Shows}
use Rattle.distribute.specs.Preview.Bytes.{turned_byte, turned_bytes}
use Rattle.distribute.proofs.PreviewLaws.Bytes.{byte_one, byte_zero, bytes_at, bytes_same}
use Rattle.distribute.specs.Preview.Preview.{check_lists, preview_tangents, AsSpreading, PreviewFree, AnyOrder}
use Rattle.distribute.proofs.Accepted.{preview_lists_of}

module _ {S : Steps} (L : Lawful S) (ts : S.Tangents) (whole : L.Whole ts) (starts : List ℕ) (names : NamesFixed S starts) where
  abbrev order : OrderFree S starts ts (pass S ts).tangents (pass S ts).looked (pass S ts).turned
  order = order_free L ts whole starts names

  same : turned_bytes S (pass S ts) ≡ turned_bytes S (spread S starts ts)
  same = bytes_same S (pass S ts) (spread S starts ts) (λ e. sym (order.places_same e))

  byte : (e d : ℕ) → e < S.n → get_or (turned_bytes S (pass S ts)) e d ≡ turned_byte S (spread S starts ts) e
  byte e d l = ap (λ (Y : List ℕ). get_or Y e d) same ∙ bytes_at S (spread S starts ts) e d l

  none : (e : ℕ) → ¬ WasTurned S (spread S starts ts) e → count e (spread S starts ts).places ≡ 0
  none e h = go (zero_or_more (count e (spread S starts ts).places))
    where
      go : (count e (spread S starts ts).places ≡ 0) ⊎ (e ∈ (spread S starts ts).places) → count e (spread S starts ts).places ≡ 0
      go (inl z) = z
      go (inr p) = absurd (h p)

  preview_free : PreviewFree S starts ts (turned_bytes S (pass S ts)) (pass S ts).looked (pass S ts).turned
  preview_free = record {
    order = order;
    bytes_same = same;
    one_at_turned = λ e l h. byte e 0 l ∙ byte_one S (spread S starts ts) e h;
    zero_elsewhere = λ e l h. byte e 1 l ∙ byte_zero S (spread S starts ts) e (none e h);
  }

module _ (H : Halfedges) (P N : List Float) (X : List ℕ) (T : List Float) (Y : List ℕ) (n p : ℕ) where
  pub any_order : {Z : List ℕ} {k : Counts} → Shows (float_steps H P N X n) (spread_tangents H P N X T n) Z k → AnyOrder H P N X T Y n p Z (Ok k)
  any_order w acc starts names =
      let l = preview_lists_of H P N X T Y n p acc in
      rw (w.bytes_are, w.looked_is, w.turned_is) (preview_free (lawful l.0 P N X) T l.1.tangents starts names)

  pub as_spreading : {r : Spreading} → r ≡ preview_tangents H P N X T Y n p → AsSpreading H P N X T Y n p r
  unfolding check_lists Distribute.check_lists
  as_spreading er C D e = er ∙ ap answer (sym e)
    where
      answer : Bool → Spreading
      answer b = answer_of (check_with H P N X T b n p) (counts_of (spread_tangents H P N X T n).looked (spread_tangents H P N X T n).turned)
