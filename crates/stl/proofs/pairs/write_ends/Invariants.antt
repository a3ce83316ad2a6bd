-- The halfedges so far have their ends and rows; all starts and the places behind stay.
use Rattle.std.proofs.Common.{◌*◌}
use Rattle.mesh.specs.Mesh.{halfedge_stride}
use Rattle.stl.specs.File.Starts.{Starts, Further}
use Rattle.stl.specs.Pairs.Written.{EndsRows}
use Rattle.stl.proofs.pairs.write_ends.Given as goal

abbrev pub invariant-loop-e : goal.invariant-loop-e
invariant-loop-e l =
    record {
      ends : EndsRows l.file.bytes.now l.e l.h;
      starts : Starts l.file.bytes.now (3 * l.file.triangles) l.h;
      further : Further (3 * l.file.triangles * halfedge_stride) l.fn.h l.h;
    }
