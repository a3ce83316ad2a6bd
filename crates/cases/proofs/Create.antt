-- The cases of `create_tangents` hold, of its questions and of its steps, by computation. Assumes nothing.
use mathlib.Core.Path.{refl}
use Rattle.float.specs.F64.{min_of}
use Rattle.common.specs.Count.{sum, count_below}
use Rattle.mesh.specs.Mesh.{eq_z, same_face}
use Rattle.questions.specs.Questions.{sign_clear}
use Rattle.questions.specs.Check.{check_refs, check_entries}
use Rattle.smoothing.specs.Directions.{directionless}
use Rattle.smoothing.specs.Edges.{same_face_across, no_other_neighbor, is_inside_quad}
use Rattle.cycles.specs.Walk.{cycle_from}
use Rattle.cycles.specs.Cycles.{next_around}
use Rattle.smoothing.specs.Faces.{is_face_neighbor, face_neighbors, mark_neighbor, mark_flat, flat_faces}
use Rattle.create_shared.specs.Verts.{vert_halfedge}
use Rattle.create_shared.specs.Makings.{directionless_at, aligned_directionless}
use Rattle.create.specs.Edges.Edges.{push_boundary, push_boundaries, sharpened_edges, and_modify, or_insert, modify, key_of, insert, edges_of}
use Rattle.create.specs.Creases.Creases.{push_at, push_edge, vert_tangents, through_of, add_sides, sums_of, mean_of, crease_of}
use Rattle.create.specs.Initial.First.{first_tangent, put_first_tangent, first_tangents, first_directionless}
use Rattle.create.specs.Shapes.Sharpen.{sharpened, sharpen_tangent, meeting_smoothness, sharpen_meeting_at, sharpen_meeting}
use Rattle.create.specs.Shapes.Shapes.{fix_halfedge, shape_crease, shape_vert, shape_verts, crease_directionless}
use Rattle.create.specs.Whole.Shape.{shaped_tangents}
use Rattle.create.specs.Whole.Core.{directionless_with, create_directionless}
use Rattle.create.specs.Create.{check_create}
use Rattle.cases.specs.CreateQuestions.{CreateQuestionsHold}
use Rattle.cases.specs.Entries.{EntriesHold}
use Rattle.cases.specs.Creases.{CreasesHold}
use Rattle.cases.specs.Makings.{MakingsHold}
use Rattle.cases.proofs.Hold.{floats, meshes, calls}

unfoldable questions : Unit {0}
unfolding check_create check_entries check_refs sign_clear
questions = tt

pub create_questions_hold : CreateQuestionsHold
unfolding floats meshes questions
create_questions_hold = record { accepted = refl; too_long = refl; unequal = refl; no_mesh = refl; no_halfedge = refl; negative_zero = refl }

unfoldable edges : Unit {0}
unfolding min_of sharpened_edges push_boundaries push_boundary edges_of insert modify or_insert and_modify key_of
edges = tt

pub entries_hold : EntriesHold
unfolding floats meshes edges
entries_hold = record { unpushed = refl; named = refl; ignored = refl; flat = refl; bounded = refl }

unfoldable creases : Unit {0}
unfolding vert_tangents push_edge push_at crease_of through_of mean_of sums_of add_sides
creases = tt

pub creases_hold : CreasesHold
unfolding floats meshes edges creases
creases_hold = record { ascending = refl; goes_through = refl; ends = refl; no_creases = refl; meets = refl }

unfoldable shapes : Unit {0}
unfolding shaped_tangents shape_verts shape_vert shape_crease fix_halfedge first_tangents put_first_tangent first_tangent is_inside_quad flat_faces mark_flat mark_neighbor face_neighbors is_face_neighbor same_face eq_z vert_halfedge
shapes = tt

unfoldable counting : Unit {0}
unfolding create_directionless directionless_with first_directionless crease_directionless aligned_directionless directionless_at count_below sum directionless same_face_across no_other_neighbor
counting = tt

unfoldable meeting : Unit {0}
unfolding sharpen_meeting sharpen_meeting_at meeting_smoothness sharpen_tangent sharpened cycle_from next_around
meeting = tt

pub makings_hold : MakingsHold
unfolding floats meshes calls edges creases shapes counting meeting
makings_hold = record {
  without_creases = refl;
  with_crease = refl;
  all_first = refl;
  one_through = refl;
  all_through = refl;
  none = refl;
  by_the_mean = refl;
  by_zero = refl;
}
