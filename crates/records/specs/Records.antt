-- The records of an input: a u32 body length, a u16 kind and the body, kinds 1, 2, 3, .. in order. An input is refused by the first question that is answered no: 20 to 24, with its place.
use Rattle.std.specs.Prelude.{ℕ, ◌+◌, ◌*◌, ◌-◌, ◌≡◌, List, [], ◌∷◌, Bool, cond, ◌&&◌, length, get_or, take, drop, leb, eqb, Result}
use Rattle.little_endian.specs.Numbers.{u16_at, u32_at}
use Rattle.questions.specs.Check.{Checked, number_of, place_of, value_or, asked, ◌then◌, answer_of, when_accepted}
use Rattle.questions.specs.declared.Question.TheVariants.{Fits, Kind as OtherKind, Body, Operation as Unknown, End}
use Rattle.questions.specs.declared.Refusal.{Refusal}
use Rattle.records.specs.declared.TheConstants.{MAX_INPUT, HEADER_BYTES, POINT_BYTES, HALFEDGE_BYTES, TANGENT_BYTES, COUNTS_AT, POSITIONS_AT, MAX_POINTS, MAX_HALFEDGES}
use Rattle.records.specs.declared.Operation.{Operation}
use Rattle.records.specs.declared.Operation.TheVariants.{Straighten, Spread, Check}
use Rattle.records.specs.declared.Kind.{Kind}
use Rattle.records.specs.declared.Kind.TheVariants.{Operation as OperationKind, Counts as CountsKind, Positions, Halfedges, Tangents, Normals, Fixed}
use Rattle.records.specs.declared.Input.{Input}

-- ---- the operations: 1 straighten, 2 spread, 3 check

abbrev pub operation_number : Operation → ℕ
operation_number Straighten = 1
operation_number Spread = 2
operation_number Check = 3

abbrev pub is_operation : ℕ → Bool
is_operation number = leb 1 number && leb number 3

-- the operation of a number; past the three, where none is asked for, the last
unfoldable pub operation_of_number : ℕ → Operation
operation_of_number number = cond (eqb number 1) Straighten (cond (eqb number 2) Spread Check)

-- is it one of the three (23)?
abbrev pub check_operation : ℕ → Checked
check_operation number = asked Unknown 0 (is_operation number)

unfoldable pub operation_answer : ℕ → Result Operation Refusal
operation_answer number = answer_of (check_operation number) (operation_of_number number)

-- ---- the values of an answer: its number and place (`questions`), and the operation and the counts of points and halfedges; 0 for a refusal, which has none

abbrev pub operation_of : Result Input Refusal → ℕ
operation_of = value_or 0 (λ (input : Input). operation_number input.operation)

abbrev pub points_of : Result Input Refusal → ℕ
points_of = value_or 0 (λ (input : Input). input.counts.points)

abbrev pub halfedges_of : Result Input Refusal → ℕ
halfedges_of = value_or 0 (λ (input : Input). input.counts.halfedges)

-- ---- the records

-- the longest input; it and the other numbers that the code's constants have stand in src/lib.rt alone
abbrev pub max_input : ℕ
max_input = MAX_INPUT

-- a record's header: u32 body length, u16 kind
abbrev pub header_bytes : ℕ
header_bytes = HEADER_BYTES

abbrev pub body_length : List ℕ → ℕ → ℕ
body_length s at = u32_at s at

abbrev pub kind_at : List ℕ → ℕ → ℕ
kind_at s at = u16_at s (at + 4)

abbrev pub kind_number : Kind → ℕ
kind_number OperationKind = 1
kind_number CountsKind = 2
kind_number Positions = 3
kind_number Halfedges = 4
kind_number Tangents = 5
kind_number Normals = 6
kind_number Fixed = 7

-- the kinds in their order
abbrev pub kinds : List Kind
kinds = OperationKind ∷ CountsKind ∷ Positions ∷ Halfedges ∷ Tangents ∷ Normals ∷ Fixed ∷ []

-- Do header and body of the record at `at` fit in the input?
unfoldable pub record_fits : List ℕ → ℕ → Bool
record_fits s at = leb (at + header_bytes) (length s) && leb (at + header_bytes + body_length s at) (length s)

-- The questions of the record that is due at `at`: does it fit (20), is it the kind due (21), has it the body length (22)?
unfoldable pub check_record : List ℕ → ℕ → Kind → ℕ → Checked
check_record s at kind bytes =
    asked Fits at (record_fits s at)
    then asked OtherKind at (eqb (kind_at s at) (kind_number kind))
    then asked Body at (eqb (body_length s at) bytes)

-- the bytes of a point's position or normal: three numbers
abbrev pub point_bytes : ℕ
point_bytes = POINT_BYTES

-- of a halfedge: start, end, pair and row
abbrev pub halfedge_bytes : ℕ
halfedge_bytes = HALFEDGE_BYTES

-- of a tangent: four numbers
abbrev pub tangent_bytes : ℕ
tangent_bytes = TANGENT_BYTES

-- the body length that p points and n halfedges call for
abbrev pub body_bytes : ℕ → ℕ → Kind → ℕ
body_bytes p n OperationKind = 1
body_bytes p n CountsKind = 4
body_bytes p n Positions = point_bytes * p
body_bytes p n Halfedges = halfedge_bytes * n
body_bytes p n Tangents = tangent_bytes * n
body_bytes p n Normals = point_bytes * p
body_bytes p n Fixed = n

-- the length of the records of these kinds
abbrev pub records_length : ℕ → ℕ → List Kind → ℕ
records_length p n [] = 0
records_length p n (kind ∷ further) = header_bytes + body_bytes p n kind + records_length p n further

-- the kinds that every input has: those up to the tangents
abbrev pub mesh_kinds : List Kind
mesh_kinds = take 5 kinds

-- the most points, and the most halfedges, that the longest input has room for: as many as their bytes fit into it beside the records up to the tangents without any (`counts_bound`, proofs/Accepted.antt)
abbrev pub max_points : ℕ
max_points = MAX_POINTS

abbrev pub max_halfedges : ℕ
max_halfedges = MAX_HALFEDGES

-- where the body of a kind is: past the records before it, and its own header
abbrev pub body_at : ℕ → ℕ → Kind → ℕ
body_at p n kind = records_length p n (take (kind_number kind - 1) kinds) + header_bytes

-- the number of the last kind: spreading has point normals and fixed halfedges too
abbrev pub last_kind : Operation → ℕ
last_kind Straighten = 5
last_kind Spread = 7
last_kind Check = 5

-- the kinds after the counts
abbrev pub bodies : Operation → List Kind
bodies operation = drop 2 (take (last_kind operation) kinds)

-- ---- the first question that is answered no

-- of the records of these kinds, the first of which is due at `place`, and then of the end of the input (24)
unfoldable pub check_bodies : List ℕ → ℕ → ℕ → List Kind → ℕ → Checked
check_bodies s p n [] place = asked End place (eqb place (length s))
check_bodies s p n (kind ∷ further) place =
    check_record s place kind (body_bytes p n kind)
    then check_bodies s p n further (place + (header_bytes + body_bytes p n kind))

-- where the record of the counts is: past that of the operation, which has one byte
abbrev pub counts_at : ℕ
counts_at = COUNTS_AT

-- where the record of the positions is: past the counts, which have two u16
abbrev pub positions_at : ℕ
positions_at = POSITIONS_AT

-- the bodies of the first two records: the operation, and the two counts
abbrev pub operation_in : List ℕ → ℕ
operation_in s = get_or s header_bytes 0

abbrev pub points_in : List ℕ → ℕ
points_in s = u16_at s (counts_at + header_bytes)

abbrev pub halfedges_in : List ℕ → ℕ
halfedges_in s = u16_at s (counts_at + header_bytes + 2)

abbrev pub input_in : List ℕ → Input
input_in s =
    record { operation = operation_of_number (operation_in s); counts = record { points = points_in s; halfedges = halfedges_in s } }

-- of the records of an input of any length
unfoldable pub check_records : List ℕ → Checked
check_records s =
    check_record s 0 OperationKind 1
    then check_operation (operation_in s)
    then check_record s counts_at CountsKind 4
    then check_bodies s (points_in s) (halfedges_in s) (bodies (operation_of_number (operation_in s))) positions_at

-- of the program's input: too long is 20 at 0
unfoldable pub check_input : List ℕ → Checked
check_input s = asked Fits 0 (leb (length s) max_input) then check_records s

-- ---- the answer

-- a refusal, or the operation and the counts
unfoldable pub parse_input : List ℕ → Result Input Refusal
parse_input s = answer_of (check_input s) (input_in s)

-- what holds of each answer r to an input s, where this is the first no
pub record Values (checked : Checked) (s : List ℕ) (r : Result Input Refusal) : Type 0 where
  pub number : number_of r ≡ number_of checked
  pub place : place_of r ≡ place_of checked
  pub operation : operation_of r ≡ when_accepted checked (operation_in s) 0
  pub points : points_of r ≡ when_accepted checked (points_in s) 0
  pub halfedges : halfedges_of r ≡ when_accepted checked (halfedges_in s) 0
