-- What the reads of a sound mesh ask, where the list of halfedges has its length.
use Prim.Native.Nat.{ℕ, ◌+◌, ◌*◌, ◌≤◌, ◌<◌}
use native.Mathlib.Omega.{arith}
use mathlib.Core.Path.{◌≡◌, refl}
use mathlib.Core.List.{List}
use lib.ListN.{length}
use lib.IntN.{ℤ}
use Rattle.mesh.specs.Mesh.{halfedge_stride, Halfedges, as_halfedges}
use Rattle.mesh.specs.Sound.{Sound}
use Rattle.mesh.specs.Inside.{Inside}

-- of what `as_halfedges` gives of it
pub inside : {H : Halfedges} {n p : ℕ} → Sound H n p → H.numbers ≡ n * halfedge_stride → (e : ℕ) → e < n → Inside H e
inside s whole e h = record {
  within = omega arith;
  start_index = omega (arith, s.start_below e h, s.few_points);
  end_index = omega (arith, s.end_below e h, s.few_points);
  pair_index = omega (arith, s.paired_below e h, s.few_halfedges);
}

-- and of the list itself
pub list_numbers : (list : List ℤ) → (as_halfedges list).numbers ≡ length list
unfolding as_halfedges
list_numbers list = refl

pub inside_list : (list : List ℤ) (e : ℕ) → Inside (as_halfedges list) e → e * halfedge_stride + halfedge_stride ≤ length list
inside_list list e i = omega (arith, i.within, list_numbers list)
