-- The laws of bytes that are stored one after the other. Assumes nothing.
use Prim.Native.Nat.{ℕ, suc, ◌+◌, ◌-◌, ◌≤◌}
use native.Mathlib.Nat.{add-zero, add-suc, suc-add, add_assoc}
use native.Mathlib.Omega.{arith}
use mathlib.Core.Path.{◌≡◌, refl, sym, ap, ◌∙◌}
use mathlib.Core.List.{List, [], ◌∷◌, ◌++◌, append_assoc}
use lib.ListN.{length, take, drop, set, length-append}
use lib.Seq.{sets, length-sets, take_at}
use borrow.Rule.Slice.PartMut.{put_mid, Post-is}
use Rattle.std.proofs.lemmas.List.Edits.{sets-eq}
use Rattle.program.specs.Lines.Text.{Put}

sets_append : (l : List ℕ) (i : ℕ) (xs ys : List ℕ) → sets (sets l i xs) (i + length xs) ys ≡ sets l i (xs ++ ys)
sets_append l i [] ys = rw add-zero
sets_append l i (x ∷ xs) ys = rw (add-suc, ← suc-add) (sets_append (set l i x) (suc i) xs ys)

pub put_none : {a : List ℕ} {i : ℕ} → i ≤ length a → Put a i [] a i
put_none {a} {i} h = record { stored = refl; ends = sym (add-zero i); within = h }

pub put_length : {a b xs : List ℕ} {i m : ℕ} → Put a i xs b m → length b ≡ length a
put_length {a} {b} {xs} {i} p = ap length p.stored ∙ length-sets a i xs

pub put_then : {a b c xs ys : List ℕ} {i m k : ℕ} → Put a i xs b m → Put b m ys c k → Put a i (xs ++ ys) c k
put_then {a} {b} {c} {xs} {ys} {i} {m} {k} p q =
    record {
      stored = q.stored ∙ rw (p.stored, p.ends) (sets_append a i xs ys);
      ends = q.ends ∙ rw (p.ends, length-append) (add_assoc i (length xs) (length ys));
      within = omega (arith, q.within, put_length p);
    }

-- bytes that are copied over a part of the buffer
pub put_over : (a xs : List ℕ) (i end : ℕ) → end ≡ i + length xs → end ≤ length a → Put a i xs (put_mid i (end - i) a xs) end
put_over a xs i end e h =
    let le : i ≤ end = omega arith in
    let within : i + length xs ≤ length a = omega arith in
    record {
      stored = rw (Post-is i end a le, e, ← append_assoc) (sym (sets-eq xs a i within));
      ends = e;
      within = h;
    }

-- what was stored at the front is the front
pub put_front : {a b xs : List ℕ} {m : ℕ} → Put a 0 xs b m → take m b ≡ xs
put_front {a} {b} {xs} {m} p =
    ap (take m) (p.stored ∙ sets-eq xs a 0 (omega (arith, p.ends, p.within))) ∙ take_at xs (drop (0 + length xs) a) m (omega (arith, p.ends))

-- what a caller needs to know of the room that is left
pub put_within : {a b xs : List ℕ} {i m : ℕ} (k : ℕ) → length xs ≤ k → Put a i xs b m → (m ≤ i + k) × (length b ≡ length a)
put_within k h p = let e = p.ends in (omega arith, put_length p)
