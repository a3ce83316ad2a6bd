-- The exact lines: in each, what the definitions compute and what is stated. The stated side has literals only: numbers, records of them, floats by std's `of_bits` of their bit patterns, and fractions, where m / 2 ^ (k + 1) is `fin false m (negsuc k)`.
use Rattle.std.specs.Prelude.{ℕ, ◌≡◌, true, false, List, [], ◌∷◌, ◌++◌, length, map, negsuc, Float, Ok, Err}
use Rattle.std.specs.Float.{nan, fin, binary64}
use Rattle.std.specs.Float.Ieee.{neg, of_bits}
use Rattle.common.specs.Pillow.{points, halfedges, pillow_with, pillow, positions, straightened}
use Rattle.float.specs.Ops.{zero as 0f, one, two, three, four}
use Rattle.sqrt.specs.Sqrt.{sqrt_of}
use Rattle.math.specs.Trig.{sin_of, cos_of}
use Rattle.math.specs.Acos.{acos_of}
use Rattle.linalg.specs.declared.Vec3.{Vec3}
use Rattle.linalg.specs.declared.Vec4.{Vec4}
use Rattle.mesh.specs.Mesh.{as_halfedges, next_halfedge, prev_halfedge}
use Rattle.questions.specs.Check.{Checked, number_of, place_of}
use Rattle.questions.specs.declared.Question.TheVariants.{Mutual}
use Rattle.smoothing.specs.Directions.{circular_tangent}
use Rattle.linearize.specs.Linearize.{linearize_answer, tangents_after}
use Rattle.validate.specs.Validate.{Validity, valid_answer}
use Rattle.distribute.specs.Distribute.{Spreading, looked_of, turned_of, distribute_tangents}
use Rattle.cases.specs.Pillow.{no_tangents, weighted, zero_normals, zero_angles}

-- the kinds of value that a line speaks of
pub data Value : Type 0 where
  number : ℕ → Value
  float : Float → Value
  tangent : Vec4 → Value
  tangents : List Float → Value
  checked : Checked → Value
  validity : Validity → Value
  counts : Spreading → Value

pub record Line : Type 0 where
  pub computed : Value
  pub stated : Value

infixl 20 ◌is◌
abbrev pub ◌is◌ : Value → Value → Line
x is y = record { computed = x; stated = y }

abbrev pub vec : Float → Float → Float → Vec3
vec x y z = record { x = x; y = y; z = z }

abbrev pub tangent_of : Float → Float → Float → Float → Value
tangent_of x y z w = tangent (record { x = x; y = y; z = z; w = w })

-- Next of 0 is 1, of 2 is 0; previous of 0 is 2, of 3 is 5.
abbrev pub next_and_previous : List Line
next_and_previous =
    (number (next_halfedge 0) is number 1)
    ∷ (number (next_halfedge 2) is number 0)
    ∷ (number (prev_halfedge 0) is number 2)
    ∷ (number (prev_halfedge 3) is number 5)
    ∷ []

-- Square roots: 4 gives 2, 2.25 gives 1.5, -0 gives -0, -1 gives not-a-number.
abbrev pub square_roots : List Line
square_roots =
    (float (sqrt_of four) is float (of_bits binary64 0x4000_0000_0000_0000))
    ∷ (float (sqrt_of (fin false 9 (negsuc 1))) is float (of_bits binary64 0x3ff8_0000_0000_0000))
    ∷ (float (sqrt_of (neg 0f)) is float (of_bits binary64 0x8000_0000_0000_0000))
    ∷ (float (sqrt_of (neg one)) is float nan)
    ∷ []

-- Sine of 2^-27 is 2^-27 and cosine of it is 1.
abbrev pub sine_and_cosine : List Line
sine_and_cosine =
    (float (sin_of (fin false 1 (negsuc 26))) is float (fin false 1 (negsuc 26)))
    ∷ (float (cos_of (fin false 1 (negsuc 26))) is float (of_bits binary64 0x3ff0_0000_0000_0000))
    ∷ []

-- `acos` of 1 is 0; of 0 it is `PIO2_HI`.
abbrev pub arccosine : List Line
arccosine = (float (acos_of one) is float (of_bits binary64 0x0000_0000_0000_0000)) ∷ (float (acos_of 0f) is float (of_bits binary64 0x3ff9_21fb_5444_2d18)) ∷ []

-- `circular_tangent` of (1,0,0) and edge (3,0,0) is (1,0,0,1).
-- Of (0,1,0) and edge (2,0,0): y is (2^53 - 1)/2^53 and the weight 3002399751580331/2^52. (x and z are 0.)
-- Of (0,0,0) and edge (2,0,0): the same weight, direction all 0.
abbrev pub circular_tangents : List Line
circular_tangents =
    (tangent (circular_tangent (vec one 0f 0f) (vec three 0f 0f)) is tangent_of (of_bits binary64 0x3ff0_0000_0000_0000) (of_bits binary64 0x0000_0000_0000_0000) (of_bits binary64 0x0000_0000_0000_0000) (of_bits binary64 0x3ff0_0000_0000_0000))
    ∷ (tangent (circular_tangent (vec 0f one 0f) (vec two 0f 0f)) is tangent_of (of_bits binary64 0x0000_0000_0000_0000) (fin false 9007199254740991 (negsuc 52)) (of_bits binary64 0x0000_0000_0000_0000) (fin false 3002399751580331 (negsuc 51)))
    ∷ (tangent (circular_tangent (vec 0f 0f 0f) (vec two 0f 0f)) is tangent_of (of_bits binary64 0x0000_0000_0000_0000) (of_bits binary64 0x0000_0000_0000_0000) (of_bits binary64 0x0000_0000_0000_0000) (fin false 3002399751580331 (negsuc 51)))
    ∷ []

-- the mark check of the pillow with these weights
abbrev pub marks : List Float → Value
marks ws = validity (valid_answer (as_halfedges pillow) positions (weighted ws) halfedges points)

abbrev pub minus : Float
minus = neg one

-- Pillow, weights all 1: marks valid. Mark only halfedge 0: not valid. Mark 0 and 5: valid. Mark 0, 5, 1 and 4: not valid.
abbrev pub pillow_marks : List Line
pillow_marks =
    (marks (one ∷ one ∷ one ∷ one ∷ one ∷ one ∷ []) is validity (Ok true))
    ∷ (marks (minus ∷ one ∷ one ∷ one ∷ one ∷ one ∷ []) is validity (Ok false))
    ∷ (marks (minus ∷ one ∷ one ∷ one ∷ one ∷ minus ∷ []) is validity (Ok true))
    ∷ (marks (minus ∷ minus ∷ one ∷ one ∷ minus ∷ minus ∷ []) is validity (Ok false))
    ∷ []

-- Pillow with the pair of 0 set to 0: refused 5 (`Mutual`), place 5.
abbrev pub pillow_refused : List Line
pillow_refused =
    let answer = linearize_answer (as_halfedges (pillow_with 0)) positions no_tangents halfedges points in
    (checked answer is checked (Err (record { question = Mutual; place = 5 }))) ∷ (number (number_of answer) is number 5) ∷ (number (place_of answer) is number 5) ∷ []

-- the answer to spreading the straightened pillow, point normals all 0, with these flags of fixed halfedges
abbrev pub spreading : List ℕ → Spreading
spreading fixed = distribute_tangents (as_halfedges pillow) positions zero_normals fixed straightened zero_angles zero_angles halfedges points

-- Pillow, straightened tangents of the listing below, point normals all 0, flag on 0 only: looked 2, turned 0. All flags: looked 6, turned 0. No flags: looked 0, turned 0.
abbrev pub pillow_spread : List Line
pillow_spread =
    let first = spreading (1 ∷ 0 ∷ 0 ∷ 0 ∷ 0 ∷ 0 ∷ []) in
    let all = spreading (1 ∷ 1 ∷ 1 ∷ 1 ∷ 1 ∷ 1 ∷ []) in
    let none = spreading (0 ∷ 0 ∷ 0 ∷ 0 ∷ 0 ∷ 0 ∷ []) in
    (counts first is counts (Ok (record { looked = 2; turned = 0 }))) ∷ (number (looked_of first) is number 2) ∷ (number (turned_of first) is number 0)
    ∷ (counts all is counts (Ok (record { looked = 6; turned = 0 }))) ∷ (number (looked_of all) is number 6) ∷ (number (turned_of all) is number 0)
    ∷ (counts none is counts (Ok (record { looked = 0; turned = 0 }))) ∷ (number (looked_of none) is number 0) ∷ (number (turned_of none) is number 0)
    ∷ []

-- The whole listing: the pillow straightened, all tangents 0.
abbrev pub pillow_straightened : List Line
pillow_straightened =
    (tangents (tangents_after (as_halfedges pillow) positions no_tangents halfedges points)
    is tangents
    (map (of_bits binary64)
    (0x3ff0000000000000 ∷ 0x0000000000000000 ∷ 0x0000000000000000 ∷ 0x3ff0000000000000
    ∷ 0xbff0000000000000 ∷ 0x4000000000000000 ∷ 0x0000000000000000 ∷ 0x3ff0000000000000
    ∷ 0x8000000000000000 ∷ 0xc000000000000000 ∷ 0x8000000000000000 ∷ 0x3ff0000000000000
    ∷ 0x0000000000000000 ∷ 0x4000000000000000 ∷ 0x0000000000000000 ∷ 0x3ff0000000000000
    ∷ 0x3ff0000000000000 ∷ 0xc000000000000000 ∷ 0x8000000000000000 ∷ 0x3ff0000000000000
    ∷ 0xbff0000000000000 ∷ 0x8000000000000000 ∷ 0x8000000000000000 ∷ 0x3ff0000000000000
    ∷ [])))
    ∷ []

-- all of them
abbrev pub lines : List Line
lines = next_and_previous ++ square_roots ++ sine_and_cosine ++ arccosine ++ circular_tangents ++ pillow_marks ++ pillow_spread ++ pillow_refused ++ pillow_straightened

abbrev pub computed_of : List Line → List Value
computed_of [] = []
computed_of (l ∷ ls) = l.computed ∷ computed_of ls

abbrev pub stated_of : List Line → List Value
stated_of [] = []
stated_of (l ∷ ls) = l.stated ∷ stated_of ls

-- THE CLAIM, of a list of so many lines: each computes what it states
pub record AllHold (ls : List Line) (count : ℕ) : Type 0 where
  pub each : computed_of ls ≡ stated_of ls
  pub none_left_out : length ls ≡ count

abbrev pub LinesHold : Type 0
LinesHold = AllHold lines 32
