-- The cases of specs/Stl.antt hold, by computation. Assumes nothing.
use mathlib.Core.Path.{refl}
use lib.Ieee.{of_bits}
use Rattle.common.specs.Count.{sum, count_below}
use Rattle.common.specs.Lowest.{lowest, lowest_from}
use Rattle.mesh.specs.Mesh.{next_halfedge}
use Rattle.little_endian.specs.Numbers.{little_endian}
use Rattle.little_endian.specs.Filled.{items, filled}
use Rattle.stl.specs.File.File.{triangle_count, clean, corner_offset, corner_at, normal_item}
use Rattle.stl.specs.File.Points.{same_corner, same_point, first_of, is_first, point_of, point_count, corner_of}
use Rattle.stl.specs.File.Edges.{same_edge, is_reverse, pair_of, is_paired}
use Rattle.stl.specs.File.Lists.{coordinate, point_item, halfedge_number, halfedge_item}
use Rattle.stl.specs.Questions.{finite, triangle_fits, check_file}
use Rattle.cases.specs.Stl.{StlHolds}

pub stl_holds : StlHolds
unfolding of_bits sum count_below lowest lowest_from next_halfedge little_endian items filled triangle_count clean corner_offset corner_at normal_item same_corner same_point first_of is_first point_of point_count corner_of same_edge is_reverse pair_of is_paired coordinate point_item halfedge_number halfedge_item finite triangle_fits check_file
stl_holds = record {
  accepted = refl;
  its_points = refl;
  its_halfedges = refl;
  its_normals = refl;
  longer = refl;
  cut = refl;
  no_room = refl;
  not_finite = refl;
  flat = refl;
  torn = refl;
  twice = refl;
  empty = refl;
}
