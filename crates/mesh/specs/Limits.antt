-- The limits and sizes of a mesh in literals. The definitions name them by the constants of the code; here is what each has to be.
use Rattle.std.specs.Prelude.{◌≡◌}
use Rattle.mesh.specs.Mesh.{max_halfedges, max_points, halfedge_stride, ref_stride, no_index}

-- the most halfedges and points, the numbers of a halfedge and of a face reference, and 2^32 for a negative number
pub record MeshLimits : Type 0 where
  pub most_halfedges : max_halfedges ≡ 65535
  pub most_points : max_points ≡ 65535
  pub halfedge_numbers : halfedge_stride ≡ 4
  pub reference_numbers : ref_stride ≡ 3
  pub negative : no_index ≡ 4294967296
