-- Each worked case of spreading's two walks computes what it states. antt computes both lists. Assumes nothing.
use mathlib.Core.Path.{refl}
use lib.Ieee.{of_int}
use Rattle.math.specs.Kernels.{sin_kernel, cos_kernel}
use Rattle.math.specs.Acos.{acos_r, clear_low_word, acos_positive}
use Rattle.linalg.specs.Vec.{scale3, qxdir_of, qydir_of, qzdir_of, qrot_of, normalize_of, rotation_quat_axis_angle}
use Rattle.smoothing.specs.Directions.{wrap_of, angle_between}
use Rattle.distribute.specs.Steps.FloatSteps.{edge_direction, last_or, angle_around, next_current, next_desired, add_offset, scale_of, offset_of, plan, clamp_angle, clamped_angle, turn_angle, turned_tangent, next}
use Rattle.cases.specs.Traps.{TrapsHold}
use Rattle.cases.proofs.Hold.{floats, meshes, calls, spreads}

-- what a turned tangent is computed with
unfoldable turns : Unit {0}
unfolding of_int sin_kernel cos_kernel acos_r clear_low_word acos_positive scale3 qxdir_of qydir_of qzdir_of qrot_of normalize_of rotation_quat_axis_angle wrap_of angle_between edge_direction last_or angle_around next_current next_desired add_offset scale_of offset_of plan clamp_angle clamped_angle turn_angle turned_tangent next
turns = tt

pub traps_hold : TrapsHold
unfolding floats meshes calls spreads turns
traps_hold = record { each = refl; none_left_out = refl }
