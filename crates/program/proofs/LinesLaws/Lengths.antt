-- How long the lines are, and when there is room for them. Assumes nothing.
use Prim.Native.Nat.{ℕ, zero, suc, ◌+◌, ◌*◌, ◌-◌, ◌/◌, ◌<◌, ◌≤◌}
use native.Mathlib.Omega.{arith}
use mathlib.Core.Path.{◌≡◌, refl, sym, ◌∙◌}
use mathlib.Core.Bool.{Bool, true, false, cond}
use mir.Val.{bool_byte}
use mathlib.Core.List.{List, []}
use borrow.Author.Tests.{le-leb, lt-leb, leb-true, leb-false}
use lib.Dec.{leb}
use lib.ListN.{length, length-append}
use lib.Ieee.{Float}
use Rattle.std.proofs.lemmas.Bool.{and_parts}
use Rattle.program.specs.Lines.Text.{ascii}
use Rattle.program.specs.Lines.Lines.{number_line, numbers_line, bits_field, tangent_line, tangent_lines, tangents_lines, lines_of, line_bytes, halfedges_in, has_room, rendered}
use Rattle.program.specs.declared.lines.Output.{Output}
use Rattle.program.specs.declared.lines.Output.TheVariants.{Tangents, Spread, Valid, Refused}
use Rattle.program.proofs.LinesLaws.Digits.{decimal_length, hex_length}

pub field_length : (T : List Float) (i : ℕ) → length (bits_field T i) ≤ 17
unfolding bits_field ascii
field_length T i = rw (length-append, hex_length) (omega arith)

pub number_line_length : (text : List ℕ) (n : ℕ) → length text ≤ 16 → length (number_line text n) ≤ 48
unfolding number_line ascii
number_line_length text n h = rw (length-append, length-append) (omega (arith, decimal_length n))

pub tangent_line_length : (T : List Float) (e : ℕ) → length (tangent_line T e) ≤ line_bytes
unfolding tangent_line ascii
tangent_line_length T e =
    simp length-append
    (omega (arith, decimal_length e, field_length T (4 * e), field_length T (4 * e + 1), field_length T (4 * e + 2), field_length T (4 * e + 3)))

pub tangent_lines_length : (T : List Float) (n : ℕ) → length (tangent_lines T n) ≤ line_bytes * n
unfolding tangent_lines
tangent_lines_length T zero = omega arith
tangent_lines_length T (suc n) = rw length-append (omega (arith, tangent_lines_length T n, tangent_line_length T n))

pub tangents_length : (T : List Float) (n : ℕ) → length (tangents_lines T n) ≤ line_bytes * (n + 1)
unfolding tangents_lines ascii
tangents_length T n = rw length-append (omega (arith, tangent_lines_length T n, number_line_length (ascii "tangents ") n (omega arith)))

pub numbers_line_length : (text text' : List ℕ) (n m : ℕ) → length text ≤ 16 → length text' ≤ 16 → length (numbers_line text n text' m) ≤ line_bytes
unfolding numbers_line
numbers_line_length text text' n m h h' = rw (length-append, length-append) (omega (arith, decimal_length n, number_line_length text' m h'))

-- a line of each halfedge and two more
pub lines_length : (o : Output) (T : List Float) → length (lines_of o T) ≤ line_bytes * (halfedges_in o + 2)
unfolding lines_of ascii
lines_length (Tangents n) T = omega (arith, tangents_length T n)
lines_length (Spread n looked turned) T =
    rw length-append (omega (arith, tangents_length T n, numbers_line_length (ascii "looked ") (ascii " turned ") looked turned (omega arith) (omega arith)))
lines_length (Valid valid) T = omega (arith, number_line_length (ascii "valid ") (cond valid 1 0) (omega arith))
lines_length (Refused number place) T = omega (arith, numbers_line_length (ascii "refused ") (ascii " ") number place (omega arith) (omega arith))

-- ---- the room

module _ (n numbers room : ℕ) where
  pub few_numbers : numbers / 4 < n → false ≡ has_room n numbers room
  unfolding has_room
  few_numbers h = rw (lt-leb (4 * n) numbers (omega arith))

  module _ (h : n ≤ numbers / 4) where
    pub no_lines : room / line_bytes < 2 → false ≡ has_room n numbers room
    unfolding has_room
    no_lines l = rw (le-leb (4 * n) numbers (omega arith), lt-leb (line_bytes * (n + 2)) room (omega arith))

    pub lines_room : 2 ≤ room / line_bytes → leb n (room / line_bytes - 2) ≡ has_room n numbers room
    unfolding has_room
    lines_room l = rw (le-leb (4 * n) numbers (omega arith)) (same_test (leb n (room / line_bytes - 2)) refl)
      where
        same_test : (b : Bool) → leb n (room / line_bytes - 2) ≡ b → b ≡ leb (line_bytes * (n + 2)) room
        same_test true e = sym (le-leb (line_bytes * (n + 2)) room (omega (arith, leb-true n (room / line_bytes - 2) e)))
        same_test false e = sym (lt-leb (line_bytes * (n + 2)) room (omega (arith, leb-false n (room / line_bytes - 2) e)))

pub room_for : (n numbers room : ℕ) → has_room n numbers room ≡ true → (4 * n ≤ numbers) × (line_bytes * (n + 2) ≤ room)
unfolding has_room
room_for n numbers room e =
    let p = and_parts (leb (4 * n) numbers) (leb (line_bytes * (n + 2)) room) e in
    (leb-true (4 * n) numbers p.0, leb-true (line_bytes * (n + 2)) room p.1)

-- ---- what is rendered

module _ (output : Output) (T : List Float) (room n : ℕ) (b : Bool) (e : n ≡ halfedges_in output) (h : b ≡ has_room n (length T) room) where
  pub nothing : b ≡ false → [] ≡ rendered output T room
  unfolding rendered
  nothing f = rw (← e, ← h, f)

  module _ (f : b ≡ true) where
    pub everything : (o : Output) → output ≡ o → lines_of o T ≡ rendered output T room
    unfolding rendered
    everything o g = rw (← e, ← h, f, g)

    pub enough_room : (o : Output) → output ≡ o → (4 * halfedges_in o ≤ length T) × (line_bytes * (halfedges_in o + 2) ≤ room)
    enough_room o g = rw (← g, ← e) (room_for n (length T) room (sym h ∙ f))

-- a bool as the code casts it
pub as_number : (b : Bool) → bool_byte b ≡ cond b 1 0
as_number true = refl
as_number false = refl
