-- Each limit is the literal that is stated. Assumes nothing.
use mathlib.Core.Path.{refl}
use Rattle.cases.specs.Limits.{LimitsHold}

pub limits_hold : LimitsHold
limits_hold = record {
  mesh = record { most_halfedges = refl; most_points = refl; halfedge_numbers = refl; reference_numbers = refl; negative = refl };
  counts = record { accepted = refl; halfedges_refused = refl; points_refused = refl };
  curve = record { fewest = refl; most = refl };
  records = record { longest_input = refl; header = refl; point = refl; halfedge = refl; tangent = refl; most_points = refl; most_halfedges = refl };
  program = record { positions = refl; halfedges = refl; tangents = refl; fixed = refl; line = refl; output = refl };
}
