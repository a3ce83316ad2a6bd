-- The pairs of which one halfedge is below the next block; starts, ends, rows and the places behind stay as they are.
use Rattle.std.proofs.Common.{◌≤◌, ◌-◌, ◌*◌}
use Rattle.mesh.specs.Mesh.{halfedge_stride}
use Rattle.stl.specs.File.Starts.{Starts, Further}
use Rattle.stl.specs.Pairs.Written.{EndsRows, Below, Paired}
use Rattle.stl.proofs.pairs.write_pairs.Given as goal

abbrev pub invariant-loop-lo : goal.invariant-loop-lo
invariant-loop-lo l =
    record {
      within : l.lo ≤ l.n;
      pairs : Paired l.file.bytes.now (Below l.file.bytes.now l.lo) l.h;
      starts : Starts l.file.bytes.now (3 * l.file.triangles) l.h;
      ends : EndsRows l.file.bytes.now (3 * l.file.triangles) l.h;
      further : Further (3 * l.file.triangles * halfedge_stride) l.fn.h l.h;
    }

abbrev pub decreases-loop-lo : goal.decreases-loop-lo
decreases-loop-lo l = l.n - l.lo
