-- The lists that the numbers of the input go to: their room, and what they hold after a reading.
use Rattle.std.specs.Prelude.{ℕ, ◌*◌, ◌≤◌, List, Bool, ◌&&◌, length, leb, ℤ, Float, Result, Ok, Err}
use Rattle.little_endian.specs.Numbers.{f64_item, i32_item, byte_item}
use Rattle.little_endian.specs.Filled.{filled}
use Rattle.mesh.specs.Mesh.{halfedge_stride}
use Rattle.questions.specs.Check.{Checked, asked, ◌then◌, answer_of}
use Rattle.questions.specs.declared.Question.TheVariants.{Lengths}
use Rattle.questions.specs.declared.Refusal.{Refusal}
use Rattle.records.specs.Records.{kinds, mesh_kinds, records_length, body_at, check_input, input_in}
use Rattle.records.specs.declared.Operation.{Operation}
use Rattle.records.specs.declared.Operation.TheVariants.{Straighten, Spread, Check}
use Rattle.records.specs.declared.Kind.TheVariants.{Positions, Halfedges, Tangents, Normals, Fixed}
use Rattle.records.specs.declared.Input.{Input}

-- the five lists that are lent; `fixed` has a flag of each halfedge
pub record Lists : Type 0 where
  pub positions : List Float
  pub halfedges : List ℤ
  pub tangents : List Float
  pub normals : List Float
  pub fixed : List ℕ

abbrev pub lists_of : List ℤ → List Float → List Float → List ℕ → List Float → Lists
lists_of H P N X T = record { positions = P; halfedges = H; tangents = T; normals = N; fixed = X }

-- so many, if the operation is spreading, which alone has point normals and fixed halfedges
abbrev pub if_spread : Operation → ℕ → ℕ
if_spread Straighten count = 0
if_spread Spread count = count
if_spread Check count = 0

-- Have lists of these lengths room for the numbers?
unfoldable pub has_room : Operation → ℕ → ℕ → ℕ → ℕ → ℕ → ℕ → ℕ → Bool
has_room operation p n positions halfedges tangents normals fixed =
    leb (3 * p) positions
    && leb (halfedge_stride * n) halfedges
    && leb (4 * n) tangents
    && leb (if_spread operation (3 * p)) normals
    && leb (if_spread operation n) fixed

-- Have the lists room for an input?
abbrev pub lists_have_room : Input → Lists → Bool
lists_have_room input lists =
    has_room input.operation input.counts.points input.counts.halfedges (length lists.positions) (length lists.halfedges) (length lists.tangents) (length lists.normals) (length lists.fixed)

-- the first no of a reading: the room (2) is asked about after the input, and has place 0; lists of the lengths that `max_points` and `max_halfedges` call for always have it
unfoldable pub check_reading : List ℕ → Lists → Checked
check_reading s lists = check_input s then asked Lengths 0 (lists_have_room (input_in s) lists)

-- the answer of a reading
unfoldable pub read_answer : List ℕ → Lists → Result Input Refusal
read_answer s lists = answer_of (check_reading s lists) (input_in s)

-- what the lists hold where an input is accepted: its numbers in front, and the rest as lent
abbrev pub filled_lists : Operation → ℕ → ℕ → List ℕ → Lists → Lists
filled_lists operation p n s lists =
    record {
      positions = filled (f64_item s (body_at p n Positions)) (3 * p) lists.positions;
      halfedges = filled (i32_item s (body_at p n Halfedges)) (halfedge_stride * n) lists.halfedges;
      tangents = filled (f64_item s (body_at p n Tangents)) (4 * n) lists.tangents;
      normals = filled (f64_item s (body_at p n Normals)) (if_spread operation (3 * p)) lists.normals;
      fixed = filled (byte_item s (body_at p n Fixed)) (if_spread operation n) lists.fixed;
    }

-- What the lists hold after that answer: all as lent where it is a refusal.
unfoldable pub read_lists : Result Input Refusal → List ℕ → Lists → Lists
read_lists (Ok input) s lists = filled_lists input.operation input.counts.points input.counts.halfedges s lists
read_lists (Err refusal) s lists = lists

-- ---- what the filling of the lists may take for granted, which only inner contracts cite: the bodies are in the input, and each list has its room
pub record MeshRoom (p n input positions halfedges tangents : ℕ) : Type 0 where
  pub bodies : records_length p n mesh_kinds ≤ input
  pub position_room : 3 * p ≤ positions
  pub halfedge_room : halfedge_stride * n ≤ halfedges
  pub tangent_room : 4 * n ≤ tangents

pub record SpreadRoom (p n input normals fixed : ℕ) : Type 0 where
  pub bodies : records_length p n kinds ≤ input
  pub normal_room : 3 * p ≤ normals
  pub flag_room : n ≤ fixed
