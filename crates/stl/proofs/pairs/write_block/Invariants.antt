-- The pairs up to a triangle; all other numbers and the places behind stay.
use Rattle.std.proofs.Common.{◌*◌}
use Rattle.mesh.specs.Mesh.{halfedge_stride}
use Rattle.stl.specs.Pairs.Written.{CanPair, Kept}
use Rattle.stl.proofs.pairs.write_block.Given as goal

abbrev pub invariant-loop-t : goal.invariant-loop-t
invariant-loop-t l =
    record {
      pairs : CanPair l.block l.table l.tags (3 * l.t) l.h;
      kept : Kept (3 * l.block.file.triangles * halfedge_stride) l.fn.h l.h;
    }
