-- The limits and sizes in literals; those of a mesh are written out in crates/mesh/specs/Limits.antt. The definitions name them by the constants of the code, so that each number stands once there; here is what it has to be.
use Rattle.std.specs.Prelude.{◌≡◌, true, false}
use Rattle.mesh.specs.Limits.{MeshLimits}
use Rattle.questions.specs.Questions.{counts_fit}
use Rattle.curve.specs.Questions as Curve
use Rattle.records.specs.Records as Records
use Rattle.program.specs.Lines.Lines.{line_bytes}
use Rattle.program.specs.Program.{position_room, halfedge_room, tangent_room, flag_room, output_room}

-- question 1 at its limits and past each
pub record CountLimits : Type 0 where
  pub accepted : counts_fit 65535 65535 ≡ true
  pub halfedges_refused : counts_fit 65538 65535 ≡ false
  pub points_refused : counts_fit 65535 65536 ≡ false

-- the points along a curve
pub record CurveLimits : Type 0 where
  pub fewest : Curve.min_points ≡ 2
  pub most : Curve.max_points ≡ 256

-- the records of an input, and the most points and halfedges that it has room for
pub record RecordLimits : Type 0 where
  pub longest_input : Records.max_input ≡ 65536
  pub header : Records.header_bytes ≡ 6
  pub point : Records.point_bytes ≡ 24
  pub halfedge : Records.halfedge_bytes ≡ 16
  pub tangent : Records.tangent_bytes ≡ 32
  pub most_points : Records.max_points ≡ 2729
  pub most_halfedges : Records.max_halfedges ≡ 1364

-- the lengths of the program's lists, and of its longest line
pub record ProgramLimits : Type 0 where
  pub positions : position_room ≡ 8187
  pub halfedges : halfedge_room ≡ 5456
  pub tangents : tangent_room ≡ 5456
  pub fixed : flag_room ≡ 1364
  pub line : line_bytes ≡ 96
  pub output : output_room ≡ 131136

pub record LimitsHold : Type 0 where
  pub mesh : MeshLimits
  pub counts : CountLimits
  pub curve : CurveLimits
  pub records : RecordLimits
  pub program : ProgramLimits
