-- The program's output. Every line ends in a newline.
use Rattle.std.specs.Prelude.{ℕ, zero, suc, ◌+◌, ◌*◌, Bool, cond, ◌&&◌, List, [], ◌++◌, length, get_or, leb, Float, Result, Ok, Err}
use Rattle.std.specs.Float.{nan}
use Rattle.float.specs.F64.{bits_of}
use Rattle.questions.specs.Questions.{number as question_number}
use Rattle.questions.specs.declared.Refusal.{Refusal}
use Rattle.program.specs.Lines.Text.{ascii, decimal, hex}
use Rattle.program.specs.declared.lines.TheConstants.{LINE_BYTES}
use Rattle.program.specs.declared.lines.Output.{Output}
use Rattle.program.specs.declared.lines.Output.TheVariants.{Tangents, Spread, Valid, Refused}

-- a line of a text and a number; of a text and a number, and again
unfoldable pub number_line : List ℕ → ℕ → List ℕ
number_line text n = text ++ decimal n ++ ascii "\n"

unfoldable pub numbers_line : List ℕ → ℕ → List ℕ → ℕ → List ℕ
numbers_line text n text' m = text ++ decimal n ++ number_line text' m

-- a space and the 16 digits of the bits of number i; not-a-number is 7ff8000000000000
unfoldable pub bits_field : List Float → ℕ → List ℕ
bits_field T i = ascii " " ++ hex (bits_of (get_or T i nan))

-- the halfedge, and the bits of x, y, z and the weight
unfoldable pub tangent_line : List Float → ℕ → List ℕ
tangent_line T e =
    decimal e
    ++ bits_field T (4 * e) ++ bits_field T (4 * e + 1) ++ bits_field T (4 * e + 2) ++ bits_field T (4 * e + 3)
    ++ ascii "\n"

-- the lines of the halfedges below n
unfoldable pub tangent_lines : List Float → ℕ → List ℕ
tangent_lines T zero = []
tangent_lines T (suc e) = tangent_lines T e ++ tangent_line T e

unfoldable pub tangents_lines : List Float → ℕ → List ℕ
tangents_lines T n = number_line (ascii "tangents ") n ++ tangent_lines T n

-- the whole output
unfoldable pub lines_of : Output → List Float → List ℕ
lines_of (Tangents n) T = tangents_lines T n
lines_of (Spread n looked turned) T = tangents_lines T n ++ numbers_line (ascii "looked ") looked (ascii " turned ") turned
lines_of (Valid valid) T = number_line (ascii "valid ") (cond valid 1 0)
lines_of (Refused number place) T = numbers_line (ascii "refused ") number (ascii " ") place

-- what is printed of an answer: its output, or the number and place of the refusal
abbrev pub printed : Result Output Refusal → Output
printed (Ok output) = output
printed (Err refusal) = Refused (question_number refusal.question) refusal.place

-- room for a line: no line has more bytes
abbrev pub line_bytes : ℕ
line_bytes = LINE_BYTES

abbrev pub halfedges_in : Output → ℕ
halfedges_in (Tangents n) = n
halfedges_in (Spread n looked turned) = n
halfedges_in (Valid valid) = 0
halfedges_in (Refused number place) = 0

-- Are there four numbers for each halfedge, and room for a line of each and two more?
unfoldable pub has_room : ℕ → ℕ → ℕ → Bool
has_room n numbers room = leb (4 * n) numbers && leb (line_bytes * (n + 2)) room

-- what is written into a buffer of that length: all of the output, or nothing
unfoldable pub rendered : Output → List Float → ℕ → List ℕ
rendered output T room = cond (has_room (halfedges_in output) (length T) room) (lines_of output T) []
