-- The lists of every input that is accepted have room, and so has the output of every input. Assumes nothing.
use Prim.Native.Nat.{ℕ, ◌<◌, ◌≤◌}
use native.Mathlib.Omega.{arith}
use mathlib.Core.Path.{◌≡◌, refl, ap, ◌∙◌}
use mathlib.Core.Bool.{true, cond}
use borrow.Author.Tests.{lt-leb}
use mathlib.Core.List.{List, []}
use lib.ListN.{length, take}
use Rattle.std.specs.Prelude.{Result, Ok, Err}
use Rattle.mesh.specs.Mesh.{as_halfedges}
use Rattle.questions.specs.declared.Refusal.{Refusal}
use Rattle.records.specs.Records.{max_input, check_input, parse_input}
use Rattle.records.specs.declared.Input.{Input}
use Rattle.records.proofs.Accepted.{counts_bound}
use Rattle.program.specs.Lines.Text.{Put}
use Rattle.program.specs.Lines.Lines.{printed}
use Rattle.program.proofs.LinesLaws.Put.{put_front}
use Rattle.program.proofs.LinesLaws.Lengths.{lines_length}
use Rattle.program.proofs.OperationsLaws.Lengths.{operation_length}
use Rattle.program.specs.Program.{positions_of, halfedges_of, tangents_of, normals_of, fixed_of, lines_for, output_of, position_room, halfedge_room, tangent_room, flag_room, output_room, has_room, FitsRooms, RoomsSuffice}

module _ (s : List ℕ) where
  counts_fit : (i : Input) → parse_input s ≡ Ok i → FitsRooms i.counts.points i.counts.halfedges
  counts_fit i e =
      let bound = counts_bound s i e in
      record { positions_fit = omega arith; halfedges_fit = omega arith; tangents_fit = omega arith; fixed_fit = omega arith }

  lines_fit : (r : Result Input Refusal) → parse_input s ≡ r → length (lines_for s r) ≤ output_room
  lines_fit (Err refusal) e = omega (arith, lines_length (printed (Err refusal)) [])
  lines_fit (Ok i) e =
      let p = i.counts.points in
      let n = i.counts.halfedges in
      omega (
        arith,
        (counts_fit i e).fixed_fit,
        operation_length i.operation (as_halfedges (halfedges_of s p n)) (positions_of s p n) (normals_of s p n) (fixed_of s p n) (tangents_of s p n) n p,
      )

  output_fits : length (output_of s) ≤ output_room
  unfolding output_of
  output_fits = lines_fit (parse_input s) refl

pub rooms_suffice_lem : RoomsSuffice
rooms_suffice_lem s = (counts_fit s, output_fits s)

-- ---- lists of these lengths

have_room : has_room position_room halfedge_room tangent_room position_room flag_room flag_room flag_room output_room ≡ true
unfolding has_room
have_room = refl

-- what `answer` leaves at the front of the list for the output
pub output_in_front : (s before after : List ℕ) (size : ℕ) →
    Put before 0 (cond (has_room position_room halfedge_room tangent_room position_room flag_room flag_room flag_room output_room) (output_of s) []) after size →
    take size after ≡ output_of s
output_in_front s before after size put = put_front put ∙ ap (λ b. cond b (output_of s) []) have_room

-- ---- the longest inputs

-- an input longer than the program takes is answered as any other that is
pub too_long : (s s' : List ℕ) → max_input < length s → max_input < length s' → output_of s ≡ output_of s'
unfolding output_of parse_input check_input
too_long s s' h h' = rw (lt-leb (length s) max_input h, lt-leb (length s') max_input h')
