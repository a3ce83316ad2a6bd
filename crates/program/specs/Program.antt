-- The program `tangents`, from the bytes s that it reads to the bytes that it writes. p and n are the counts of points and halfedges.
use Rattle.std.specs.Prelude.{ℕ, ◌*◌, ◌≤◌, ◌≡◌, List, [], ◌++◌, Bool, ◌&&◌, leb, length, drop, ℤ, Float, Result, Ok, Err}
use Rattle.little_endian.specs.Numbers.{f64_item, i32_item, byte_item}
use Rattle.little_endian.specs.Filled.{items}
use Rattle.mesh.specs.Mesh.{halfedge_stride, as_halfedges}
use Rattle.records.specs.Records.{body_at, parse_input}
use Rattle.records.specs.declared.Operation.{Operation}
use Rattle.records.specs.declared.Operation.TheVariants.{Straighten, Spread, Check}
use Rattle.records.specs.declared.Kind.TheVariants.{Positions, Halfedges, Tangents, Normals, Fixed}
use Rattle.records.specs.declared.Input.{Input}
use Rattle.questions.specs.declared.Refusal.{Refusal}
use Rattle.program.specs.Lines.Lines.{lines_of, printed}
use Rattle.program.specs.Operations.Operations.{operation_lines, operation_tangents, operation_scratch}
use Rattle.program.specs.declared.TheConstants.{POSITION_ROOM, HALFEDGE_ROOM, TANGENT_ROOM, FLAG_ROOM, OUTPUT_ROOM}

-- ---- the lists of an accepted input

abbrev pub positions_of : List ℕ → ℕ → ℕ → List Float
positions_of s p n = items (f64_item s (body_at p n Positions)) (3 * p)

abbrev pub halfedges_of : List ℕ → ℕ → ℕ → List ℤ
halfedges_of s p n = items (i32_item s (body_at p n Halfedges)) (halfedge_stride * n)

abbrev pub tangents_of : List ℕ → ℕ → ℕ → List Float
tangents_of s p n = items (f64_item s (body_at p n Tangents)) (4 * n)

abbrev pub normals_of : List ℕ → ℕ → ℕ → List Float
normals_of s p n = items (f64_item s (body_at p n Normals)) (3 * p)

abbrev pub fixed_of : List ℕ → ℕ → ℕ → List ℕ
fixed_of s p n = items (byte_item s (body_at p n Fixed)) n

-- ---- the program

-- a refusal of the records, or the lines of the operation on the lists that the records hold
abbrev pub lines_for : List ℕ → Result Input Refusal → List ℕ
lines_for s (Err refusal) = lines_of (printed (Err refusal)) []
lines_for s (Ok input) =
    let p = input.counts.points in
    let n = input.counts.halfedges in
    operation_lines input.operation (as_halfedges (halfedges_of s p n)) (positions_of s p n) (normals_of s p n) (fixed_of s p n) (tangents_of s p n) n p

-- the bytes that the program writes, for every input
unfoldable pub output_of : List ℕ → List ℕ
output_of s = lines_for s (parse_input s)

-- ---- what the lent lists hold afterwards, for every input, where they have room

-- `after` the operation and the counts that were read, and as lent where the records are refused
abbrev pub when_read : {A : Type 0} → Result Input Refusal → (Operation → ℕ → ℕ → A) → A → A
when_read (Ok input) after lent = after input.operation input.counts.points input.counts.halfedges
when_read (Err refusal) after lent = lent

-- the numbers of the input in front, and the further places as lent
unfoldable pub positions_after : List ℕ → List Float → List Float
positions_after s lent = when_read (parse_input s) (λ operation p n. positions_of s p n ++ drop (3 * p) lent) lent

unfoldable pub halfedges_after : List ℕ → List ℤ → List ℤ
halfedges_after s lent = when_read (parse_input s) (λ operation p n. halfedges_of s p n ++ drop (halfedge_stride * n) lent) lent

-- only spreading has point normals and fixed halfedges
abbrev pub when_spreading : {A : Type 0} → Operation → A → A → A
when_spreading Straighten after lent = lent
when_spreading Spread after lent = after
when_spreading Check after lent = lent

unfoldable pub normals_after : List ℕ → List Float → List Float
normals_after s lent =
    when_read (parse_input s) (λ operation p n. when_spreading operation (normals_of s p n ++ drop (3 * p) lent) lent) lent

unfoldable pub fixed_after : List ℕ → List ℕ → List ℕ
fixed_after s lent =
    when_read (parse_input s) (λ operation p n. when_spreading operation (fixed_of s p n ++ drop n lent) lent) lent

-- the tangents that the operation leaves of those that were read
unfoldable pub tangents_after : List ℕ → List Float → List Float
tangents_after s lent =
    when_read (parse_input s)
    (λ operation p n.
    operation_tangents operation (as_halfedges (halfedges_of s p n)) (positions_of s p n) (normals_of s p n) (fixed_of s p n) (tangents_of s p n) n p
    ++ drop (4 * n) lent)
    lent

-- either scratch list
unfoldable pub scratch_after : List ℕ → List Float → List Float
scratch_after s lent =
    when_read (parse_input s)
    (λ operation p n.
    operation_scratch operation (as_halfedges (halfedges_of s p n)) (positions_of s p n) (normals_of s p n) (fixed_of s p n) (tangents_of s p n) n p lent)
    lent

-- ---- the room of the lent lists

-- the lengths that the longest input can call for (`RoomsSuffice`, below), which stand in src/lib.rt alone: of positions and of point
-- normals, of halfedges, of tangents, of fixed halfedges and of either scratch list, and of the output
abbrev pub position_room : ℕ
position_room = POSITION_ROOM

abbrev pub halfedge_room : ℕ
halfedge_room = HALFEDGE_ROOM

abbrev pub tangent_room : ℕ
tangent_room = TANGENT_ROOM

abbrev pub flag_room : ℕ
flag_room = FLAG_ROOM

abbrev pub output_room : ℕ
output_room = OUTPUT_ROOM

-- Has each list that room?
unfoldable pub has_room : ℕ → ℕ → ℕ → ℕ → ℕ → ℕ → ℕ → ℕ → Bool
has_room positions halfedges tangents normals fixed current desired out =
    leb position_room positions && leb halfedge_room halfedges && leb tangent_room tangents && leb position_room normals
    && leb flag_room fixed && leb flag_room current && leb flag_room desired && leb output_room out

-- the same of the lists themselves
abbrev pub lists_have_room : List Float → List ℤ → List Float → List Float → List ℕ → List Float → List Float → List ℕ → Bool
lists_have_room positions halfedges tangents normals fixed current desired out =
    has_room (length positions) (length halfedges) (length tangents) (length normals) (length fixed) (length current) (length desired) (length out)

-- lists of at least these lengths: only inner contracts cite it
pub record Room (positions halfedges tangents normals fixed current desired : ℕ) : Type 0 where
  pub positions_in : position_room ≤ positions
  pub halfedges_in : halfedge_room ≤ halfedges
  pub tangents_in : tangent_room ≤ tangents
  pub normals_in : position_room ≤ normals
  pub fixed_in : flag_room ≤ fixed
  pub current_in : flag_room ≤ current
  pub desired_in : flag_room ≤ desired

-- ---- that these lengths suffice

-- so many points and halfedges need no more room than that
pub record FitsRooms (p n : ℕ) : Type 0 where
  pub positions_fit : 3 * p ≤ position_room
  pub halfedges_fit : halfedge_stride * n ≤ halfedge_room
  pub tangents_fit : 4 * n ≤ tangent_room
  pub fixed_fit : n ≤ flag_room

-- THE CLAIM: the lists of every input that is accepted have room, and so has the output of every input.
abbrev pub RoomsSuffice : Type 0
RoomsSuffice =
    (s : List ℕ) →
    ((input : Input) → parse_input s ≡ Ok input → FitsRooms input.counts.points input.counts.halfedges) × (length (output_of s) ≤ output_room)
