-- Each exact line computes what it states. antt computes both lists. Assumes nothing.
use mathlib.Core.Path.{refl}
use lib.Ieee.{add, sub, mul, div, neg, lt, le, eq, ne, round, of_bits, to_bits}
use Rattle.float.specs.F64.{max_of, is_finite}
use Rattle.sqrt.specs.Sqrt.{square_root}
use Rattle.math.specs.Kernels.{abs_high_word, sign_bit}
use Rattle.math.specs.Trig.{sin_of, cos_of}
use Rattle.math.specs.Acos.{acos_of, acos_beyond, acos_small}
use Rattle.linalg.specs.Vec.{add3, sub3, neg3, div3, dot_of, length2_of, length_of}
use Rattle.mesh.specs.Mesh.{number_at, index_of, field, as_halfedges, next_halfedge, prev_halfedge}
use Rattle.common.specs.Lowest.{lowest_from, lowest}
use Rattle.common.specs.Fold.{fold_to}
use Rattle.questions.specs.Check.{check_mesh}
use Rattle.smoothing.specs.Directions.{vec3_from_vec4, is_degenerate, direction_by, safe_normalize, circular_tangent}
use Rattle.smoothing.specs.Lists.{point_at, tangent_at, put_tangent, weight_at}
use Rattle.smoothing.specs.Edges.{edge_vec}
use Rattle.linearize.specs.Linearize.{with_unit_weight, linearized, linearize_end, linearize_edge, linearize_at, linearize_flat_tangents}
use Rattle.validate.specs.Validate.{no_marked_neighbor, valid_at, valid_tangents}
use Rattle.questions.specs.Check.{check_flags}
use Rattle.linalg.specs.Vec.{cross_of}
use Rattle.cycles.specs.Cycles.{next_around}
use Rattle.distribute.specs.Spread.Spread.{first_walk, fixed_from, pass, second_walk, spread, spread_from, spread_on, walks_from}
use Rattle.distribute.specs.Steps.FloatSteps.{begin, next_normal, gather_edge, turns_none, tangent_direction}
use Rattle.distribute.specs.Distribute.{check_lists}
use Rattle.cases.specs.Lines.{LinesHold}

-- what the lines compute with
unfoldable pub floats : Unit {0}
unfolding add sub mul div neg lt le eq ne round of_bits to_bits max_of is_finite square_root abs_high_word sign_bit sin_of cos_of acos_of acos_beyond acos_small
floats = tt

unfoldable pub meshes : Unit {0}
unfolding number_at index_of field as_halfedges next_halfedge prev_halfedge lowest_from lowest fold_to check_mesh
meshes = tt

unfoldable pub calls : Unit {0}
unfolding add3 sub3 neg3 div3 dot_of length2_of length_of vec3_from_vec4 is_degenerate direction_by safe_normalize circular_tangent point_at tangent_at put_tangent weight_at edge_vec with_unit_weight linearized linearize_end linearize_edge linearize_at linearize_flat_tangents no_marked_neighbor valid_at valid_tangents
calls = tt

unfoldable pub spreads : Unit {0}
unfolding check_flags check_lists first_walk fixed_from pass second_walk spread spread_from spread_on walks_from begin next_normal gather_edge turns_none tangent_direction cross_of next_around
spreads = tt

pub lines_hold : LinesHold
unfolding floats meshes calls spreads
lines_hold = record { each = refl; none_left_out = refl }
