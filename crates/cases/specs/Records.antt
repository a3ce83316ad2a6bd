-- Inputs of the program: the pillow for each operation, and each refusal; and numbers of an input.
use Rattle.std.specs.Prelude.{ℕ, ◌≡◌, List, [], ◌∷◌, ◌++◌, take, replicate, negsuc, Result, Ok}
use Rattle.std.specs.Float.{nan}
use Rattle.float.specs.Ops.{lit}
use Rattle.common.specs.Pillow.{pillow, position_bits, positions}
use Rattle.little_endian.specs.Numbers.{f64_item, i32_item}
use Rattle.little_endian.specs.Filled.{items}
use Rattle.questions.specs.Check.{refused}
use Rattle.questions.specs.declared.Question.TheVariants.{Fits, Kind as OtherKind, Body, Operation as Unknown, End}
use Rattle.questions.specs.declared.Refusal.{Refusal}
use Rattle.records.specs.Records.{body_at, parse_input}
use Rattle.records.specs.declared.Operation.{Operation}
use Rattle.records.specs.declared.Operation.TheVariants.{Straighten, Spread, Check}
use Rattle.records.specs.declared.Kind.TheVariants.{Positions, Halfedges}
use Rattle.records.specs.declared.Input.{Input}
use Rattle.cases.specs.Bytes.{number, numbers, record_of, pillow_records}

-- an operation over the pillow with so many bytes of tangents
abbrev pub input : ℕ → ℕ → List ℕ
input operation bytes = pillow_records operation (replicate bytes 0)

-- an operation on the pillow's 3 points and 6 halfedges
abbrev pub on_pillow : Operation → Result Input Refusal
on_pillow operation = Ok (record { operation = operation; counts = record { points = 3; halfedges = 6 } })

pub record RecordsHold : Type 0 where
  pub straighten : parse_input (input 1 192) ≡ on_pillow Straighten
  pub check : parse_input (input 3 192) ≡ on_pillow Check
  pub spread : parse_input (input 2 192 ++ record_of 6 (replicate 72 0) ++ record_of 7 (replicate 6 1)) ≡ on_pillow Spread
  -- spreading without its normals: the record that is due there does not fit
  pub no_normals : parse_input (input 2 192) ≡ refused Fits 395
  pub empty : parse_input [] ≡ refused Fits 0
  pub cut_off : parse_input (take 394 (input 1 192)) ≡ refused Fits 197
  pub cut_header : parse_input (take 100 (input 1 192)) ≡ refused Fits 95
  -- fitting is asked before the kind, the kind before the length, the length before the operation
  pub no_fit_first : parse_input (take 10 (record_of 2 (replicate 8 0))) ≡ refused Fits 0
  pub other_kind : parse_input (record_of 2 (number 2 3 ++ number 2 6)) ≡ refused OtherKind 0
  pub kind_first : parse_input (record_of 1 (1 ∷ []) ++ record_of 3 (numbers 8 position_bits)) ≡ refused OtherKind 7
  pub other_length : parse_input (input 1 191) ≡ refused Body 197
  pub length_first : parse_input (record_of 1 (4 ∷ 4 ∷ [])) ≡ refused Body 0
  pub unknown : parse_input (input 4 192) ≡ refused Unknown 0
  pub left_over : parse_input (input 1 192 ++ (0 ∷ [])) ≡ refused End 395
  -- one byte past the limit is too long
  pub longest : parse_input (input 1 192 ++ replicate 65141 0) ≡ refused End 395
  pub too_long : parse_input (input 1 192 ++ replicate 65142 0) ≡ refused Fits 0
  pub positions_read : items (f64_item (input 1 192) (body_at 3 6 Positions)) 9 ≡ positions
  pub halfedges_read : items (i32_item (input 1 192) (body_at 3 6 Halfedges)) 24 ≡ pillow
  -- -2, -2 ^ 31, not-a-number with any bits, and -0
  pub negative : i32_item (number 4 0xffff_fffe) 0 0 ≡ negsuc 1
  pub most_negative : i32_item (number 4 0x8000_0000) 0 0 ≡ negsuc 2147483647
  pub not_a_number : f64_item (number 8 0xfff0_0000_0000_0001) 0 0 ≡ nan
  pub minus_zero : f64_item (number 8 0x8000_0000_0000_0000) 0 0 ≡ lit 0x8000_0000_0000_0000
