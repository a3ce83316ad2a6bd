-- The cases of specs/SharpEdges.antt hold, by computation. Assumes nothing.
use mathlib.Core.Path.{refl}
use Rattle.float.specs.F64.{clamp_of}
use Rattle.common.specs.Count.{sum, count_below}
use Rattle.mesh.specs.Scalar.{radians_of}
use Rattle.linalg.specs.Vec.{is_zero}
use Rattle.sharpen.specs.Crease.{min_radians, dihedral_of, edge_kind}
use Rattle.sharpen.specs.Entries.{push_entry, push_edge, list_edge}
use Rattle.sharpen.specs.declared.edge.Rule.TheVariants.{Ported, Clean}
use Rattle.cases.specs.SharpEdges.{RuleHolds, SharpEdgesHold}
use Rattle.cases.proofs.Hold.{floats, meshes, calls}

unfoldable all : Unit {0}
unfolding floats meshes calls clamp_of radians_of min_radians dihedral_of is_zero edge_kind push_entry push_edge list_edge sum count_below
all = tt

ported_holds : RuleHolds Ported
unfolding all
ported_holds = record { all_listed = refl; all_lists = refl; none_listed = refl; none_lists = refl; at_limit = refl; thin_listed = refl; unknown_unlisted = refl }

clean_holds : RuleHolds Clean
unfolding all
clean_holds = record { all_listed = refl; all_lists = refl; none_listed = refl; none_lists = refl; at_limit = refl; thin_listed = refl; unknown_unlisted = refl }

pub sharp_edges_hold : SharpEdgesHold
unfolding all
sharp_edges_hold = record {
  ported = ported_holds;
  clean = clean_holds;
  sliver_listed = refl;
  sliver_lists = refl;
  sliver_omitted = refl;
  sliver_omitted_lists = refl;
  sliver_below = refl;
  without_length = refl;
  without_length_lists = refl;
}
