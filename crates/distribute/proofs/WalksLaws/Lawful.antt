-- The float steps on an accepted mesh have what the order theorem asks of any steps, and gather one angle for each halfedge.
use mathlib.Core.Path.{◌≡◌, refl, ◌∙◌}
use mathlib.Core.List.{List}
use mathlib.Core.Bool.{true}
use Prim.Native.Nat.{ℕ, suc, ◌+◌, ◌*◌, ◌≤◌, ◌<◌}
use native.Mathlib.Omega.{arith}
use lib.ListN.{length, length-append}
use lib.Ieee.{Float}
use Rattle.linalg.specs.declared.Vec3.{Vec3}
use Rattle.linalg.specs.declared.Vec4.{Vec4}
use Rattle.mesh.specs.Mesh.{Halfedges}
use Rattle.mesh.specs.Sound.{Sound}
use Rattle.cycles.proofs.Around.{next_permutes}
use Rattle.smoothing.proofs.Tangents.{length_put, tangent_put_same, tangent_put_other, same_tangents}
use Rattle.distribute.specs.Spread.Steps.{Lawful}
use Rattle.distribute.specs.Spread.Order.{AngleCount}
use Rattle.distribute.proofs.SpreadLaws.Places.{stop_is}
use Rattle.distribute.proofs.SpreadLaws.Loops.{angles_left}
use Rattle.distribute.proofs.SpreadLaws.Guards.{angles_gathered}
use Rattle.distribute.specs.Steps.FloatSteps.{Gathered, is_start, begin, gather_edge, turn_angle, turned_tangent, float_steps}
use Rattle.distribute.specs.Walks.Walks.{steps_of, first_from}
use Rattle.distribute.specs.declared.walks.lists.SpreadLists.{SpreadLists}

pub weight_kept : (axis : Vec3) (angle : Float) (v : Vec4) → (turned_tangent axis angle v).w ≡ v.w
unfolding turned_tangent
weight_kept axis angle v = refl

-- Whole: the list has four numbers for each halfedge
abbrev pub lawful : {H : Halfedges} {n p : ℕ} → Sound H n p → (P N : List Float) (F : List ℕ) → Lawful (float_steps H P N F n)
lawful {H} {n} s P N F = record {
  permutes = next_permutes s;
  turn_weight = λ p v. weight_kept p.axis (turn_angle p) v;
  Whole = λ T. length T ≡ n * 4;
  write_whole = λ T e v w. length_put T e v ∙ w;
  read_same = λ T e v w l. tangent_put_same T e v (let z : e * 4 + 4 ≤ length T = omega arith in z);
  read_other = λ T e v d q. tangent_put_other T e v d q;
  same_tangents = λ T U t u f. same_tangents n T U t u f;
}

abbrev pub laws : (lists : SpreadLists) → Lawful (steps_of lists)
laws lists = lawful lists.sound lists.pos.now lists.normals.now lists.fixed.now

-- the number of angles
abbrev pub angle_count : Gathered → ℕ
angle_count g = length g.desired_angle

pub angles_counted : (H : Halfedges) (P N : List Float) (F : List ℕ) (n : ℕ) → AngleCount (float_steps H P N F n) angle_count
unfolding begin gather_edge
angles_counted H P N F n = record { at_start = λ start v. refl; grows = λ start e v g. simp length-append (omega arith) }

-- so the first walk from a start gathers as many as it steps onto unmarked halfedges
pub angles_are : {H : Halfedges} {n p : ℕ} → Sound H n p → (P N : List Float) (F : List ℕ) (T : List Float) (start looked : ℕ) → start < n → is_start F T start ≡ true
    → angle_count (first_from H P N F n T start looked).gathered ≡ angles_left (float_steps H P N F n) T start
angles_are {H} {n} s P N F T start looked b d =
    angles_gathered (lawful s P N F) T start b (stop_is (float_steps H P N F n) T start d) angle_count (angles_counted H P N F n) (suc n) looked
