-- What the reads of an accepted mesh ask of the list of halfedges H. Only contracts inside a call name it; `inside` of proofs/Inside.antt gives it.
use Rattle.std.specs.Prelude.{ℕ, ◌+◌, ◌*◌, ◌≤◌, ◌<◌}
use Rattle.mesh.specs.Mesh.{halfedge_stride, no_index, start_vert, end_vert, paired_halfedge, Halfedges}

-- the numbers of halfedge e stand in the list, and none is negative
pub record Inside (H : Halfedges) (e : ℕ) : Type 0 where
  pub within : e * halfedge_stride + halfedge_stride ≤ H.numbers
  pub start_index : start_vert H e < no_index
  pub end_index : end_vert H e < no_index
  pub pair_index : paired_halfedge H e < no_index
