-- The cases of specs/Records.antt and specs/Output.antt hold, by computation. Assumes nothing.
use mathlib.Core.Path.{refl}
use Rattle.little_endian.specs.Numbers.{little_endian, i32_of, f64_item, i32_item, byte_item}
use Rattle.little_endian.specs.Filled.{items}
use Rattle.records.specs.Records.{operation_of_number, record_fits, check_record, check_bodies, check_records, check_input, parse_input}
use Rattle.program.specs.Lines.Text.{ascii, decimal_up_to, decimal, hex_digit, hex_up_to, hex}
use Rattle.program.specs.Lines.Lines.{number_line, numbers_line, bits_field, tangent_line, tangent_lines, tangents_lines, lines_of}
use Rattle.cases.specs.Records.{RecordsHold}
use Rattle.cases.specs.Output.{OutputHolds}
use Rattle.cases.proofs.Hold.{floats}

-- what an input is read with, and what lines are written with
unfoldable pub reading : Unit {0}
unfolding little_endian i32_of f64_item i32_item byte_item operation_of_number record_fits check_record check_bodies check_records check_input parse_input items
reading = tt

unfoldable pub writing : Unit {0}
unfolding ascii decimal_up_to decimal hex_digit hex_up_to hex number_line numbers_line bits_field tangent_line tangent_lines tangents_lines lines_of
writing = tt

pub records_hold : RecordsHold
unfolding floats reading
records_hold = record {
  straighten = refl;
  check = refl;
  spread = refl;
  no_normals = refl;
  empty = refl;
  cut_off = refl;
  cut_header = refl;
  no_fit_first = refl;
  other_kind = refl;
  kind_first = refl;
  other_length = refl;
  length_first = refl;
  unknown = refl;
  left_over = refl;
  longest = refl;
  too_long = refl;
  positions_read = refl;
  halfedges_read = refl;
  negative = refl;
  most_negative = refl;
  not_a_number = refl;
  minus_zero = refl;
}

pub output_holds : OutputHolds
unfolding floats writing
output_holds = record { spread = refl; valid = refl; not_valid = refl; refused = refl }
