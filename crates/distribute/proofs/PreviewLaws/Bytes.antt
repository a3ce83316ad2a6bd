-- The bytes of a state: none turned, one turned more, and two states that turned the same.
use mathlib.Core.Path.{◌≡◌, refl, sym, ap, subst, ◌∙◌}
use mathlib.Core.Bool.{cond}
use mathlib.Core.List.{◌∷◌}
use Prim.Native.Nat.{ℕ, ◌<◌}
use native.Mathlib.Decide.{ℕ_discrete}
use native.Mathlib.Omega.{arith}
use borrow.Author.Tests.{eq-eqb, ne_eqb}
use lib.Dec.{eqb}
use lib.ListN.{length, get_or, set, replicate, length-set, length-replicate, get_or-replicate}
use lib.Seq.{get_or-set_same, get_or-set_other}
use Rattle.cycles.specs.Count.{count}
use Rattle.cycles.proofs.Count.{delta_equal, delta_other}
use Rattle.distribute.specs.Spread.Steps.{Steps}
use Rattle.distribute.specs.Spread.Spread.{State, handed_in, turn_at}
use Rattle.distribute.specs.Spread.Order.{WasTurned}
use Rattle.distribute.specs.Preview.Bytes.{turned_byte, turned_bytes}
use Rattle.std.proofs.lemmas.List.FromFn.{length-map-range_with_len, get_or-map-range_with_len, fill_by_all}

module _ (S : Steps) (st : State S) where
  pub byte_one : (e : ℕ) → WasTurned S st e → turned_byte S st e ≡ 1
  byte_one e h = rw (ne_eqb (count e st.places) 0 (λ q. omega arith))

  pub byte_zero : (e : ℕ) → count e st.places ≡ 0 → turned_byte S st e ≡ 0
  byte_zero e h = rw (eq-eqb (count e st.places) 0 h)

  pub bytes_length : length (turned_bytes S st) ≡ S.n
  bytes_length = length-map-range_with_len (turned_byte S st) 0 S.n

  pub bytes_at : (e d : ℕ) → e < S.n → get_or (turned_bytes S st) e d ≡ turned_byte S st e
  bytes_at e d l = get_or-map-range_with_len (turned_byte S st) 0 S.n e e d l (omega arith)

-- zeros before the first
pub bytes_none : (S : Steps) (ts : S.Tangents) (n : ℕ) → n ≡ S.n → replicate n 0 ≡ turned_bytes S (handed_in S ts)
unfolding count
bytes_none S ts n q =
    fill_by_all (turned_byte S (handed_in S ts)) (replicate n 0) S.n 0 (length-replicate n 0 ∙ q)
    (λ i l. get_or-replicate n i 0 0 (let b : i < n = omega arith in b) ∙ sym (byte_zero S (handed_in S ts) i refl))

-- a 1 for one more
pub bytes_turn : (S : Steps) (e : ℕ) (p : S.Plan) (st : State S) → e < S.n → set (turned_bytes S st) e 1 ≡ turned_bytes S (turn_at S e p st)
unfolding count
bytes_turn S e p st l =
    fill_by_all (turned_byte S (turn_at S e p st)) (set (turned_bytes S st) e 1) S.n 0 (length-set (turned_bytes S st) e 1 ∙ bytes_length S st) (λ i b. go i b (ℕ_discrete i e))
  where
    go : (i : ℕ) → i < S.n → Dec (i ≡ e) → get_or (set (turned_bytes S st) e 1) i 0 ≡ turned_byte S (turn_at S e p st) i
    go i b (yes q) =
        subst (λ (d : ℕ). get_or (set (turned_bytes S st) e 1) d 0 ≡ turned_byte S (turn_at S e p st) d) (sym q)
        (get_or-set_same (turned_bytes S st) e 1 0 (let z : e < length (turned_bytes S st) = omega (arith, bytes_length S st) in z)
        ∙ sym (byte_one S (turn_at S e p st) e (omega (arith, delta_equal e e refl))))
    go i b (no q) =
        get_or-set_other (turned_bytes S st) e i 1 0 q ∙ bytes_at S st i 0 b
        ∙ ap (λ (k : ℕ). cond (eqb k 0) 0 1) (let z : count i st.places ≡ count i (e ∷ st.places) = omega (arith, delta_other i e q) in z)

-- the bytes depend on how often each halfedge was turned, and on nothing else
pub bytes_same : (S : Steps) (st sv : State S) → ((e : ℕ) → count e st.places ≡ count e sv.places) → turned_bytes S st ≡ turned_bytes S sv
bytes_same S st sv h =
    fill_by_all (turned_byte S sv) (turned_bytes S st) S.n 0 (bytes_length S st)
    (λ i l. bytes_at S st i 0 l ∙ ap (λ (k : ℕ). cond (eqb k 0) 0 1) (h i))
