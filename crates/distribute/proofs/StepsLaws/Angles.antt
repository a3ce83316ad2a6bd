-- The angles stand in the first places of the scratch lists: what the definitions say of the first k numbers of a list, the code reads in the list itself.
use mathlib.Core.Path.{◌≡◌, refl, sym, ap, ◌∙◌}
use mathlib.Core.Bool.{Bool, false}
use mathlib.Core.List.{List}
use Prim.Native.Nat.{ℕ, zero, suc, ◌+◌, ◌-◌, ◌≤◌, ◌<◌}
use native.Mathlib.Omega.{arith}
use native.Mathlib.Numerals.{add-one}
use lib.ListN.{length, get_or, take, set}
use lib.Seq.{get_or-take, length-take-le, take-suc-set, take-set-lt}
use lib.Ieee.{Float, nan}
use Rattle.float.specs.Ops.{◌⊖◌}
use Rattle.linalg.specs.declared.Vec3.{Vec3}
use Rattle.linalg.specs.declared.Vec4.{Vec4}
use Rattle.mesh.specs.Mesh.{Halfedges}
use Rattle.smoothing.specs.Lists.{tangent_at}
use Rattle.distribute.specs.Steps.FloatSteps.{Gathered, begin, last_or, tangent_direction, next_current, next_desired, next_normal, gather_edge, turns_none, clamp_angle, clamped_angle, turn_angle, turned_tangent, turn, next}
use Rattle.distribute.specs.Steps.Scratch.{gathered_of, directions_at, plan_of}
use Rattle.distribute.specs.declared.steps.Carried.{Carried}
use Rattle.distribute.specs.declared.steps.Turning.{Turning}

-- ---- reads among the first k

-- the last of the first k numbers, as the code reads it
pub last_in : (l : List Float) (k : ℕ) (d : Float) → k ≤ length l → last_or (take k l) (length (take k l)) d ≡ last_or l k d
unfolding last_or
last_in l zero d h = refl
last_in l (suc k) d h = let below : suc k - 1 < suc k = omega arith in rw (length-take-le (suc k) l h, get_or-take (suc k) l (suc k - 1) nan below)

-- where there are no more, the angle after it does not matter
pub clamp_none : (angle last x y : Float) → clamp_angle angle last false x ≡ clamp_angle angle last false y
unfolding clamp_angle
clamp_none angle last x y = refl

-- ---- what is gathered

-- the walk sets out with the directions at its start
pub begin_directions : (H : Halfedges) (P T C D : List Float) (start : ℕ) (g : Carried) → gathered_of C D g ≡ begin H P start (tangent_at T start)
    → record { edge = g.last_edge; tangent = g.first_tangent } ≡ directions_at H P T start start
unfolding begin
begin_directions H P T C D start g e = ap (λ (x : Gathered). record { edge = x.last_edge; tangent = x.first_tangent }) e

-- the angles a and b go to the next places
pub gather_of : (C D : List Float) (approx edge tangent : Vec3) (back : Bool) (g : Carried) → g.count < length C → g.count < length D
    → (v : Vec4) → tangent ≡ tangent_direction v → gathered_of
    (set C g.count (next_current back approx tangent g.first_tangent))
    (set D g.count (next_desired edge g.last_edge (take g.count D) (length (take g.count D))))
    (record {
      count = g.count + 1;
      normal = next_normal g.normal tangent g.last_tangent;
      last_edge = edge;
      first_tangent = g.first_tangent;
      last_tangent = tangent;
    })
    ≡ gather_edge approx edge back v (gathered_of C D g)
unfolding gather_edge
gather_of C D approx edge tangent back g p q v is =
    rw (is, add-one g.count, take-suc-set C g.count _ p, take-suc-set D g.count _ q)

-- whether anything is turned, by the number of angles and the sum
pub turns_none_of : (C : List Float) (k : ℕ) (normal : Vec3) → k ≤ length C → {r b : Bool} → r ≡ turns_none k normal → r ≡ b → turns_none (length (take k C)) normal ≡ b
turns_none_of C k normal l e t = rw (length-take-le k C l) (sym e ∙ t)

-- ---- what the second walk goes by

module _ (C D : List Float) (p : Turning) (i : ℕ) (b : i < p.count) where
  abbrev wanted : Float
  wanted = clamped_angle p.scale (take p.count D) (length (take p.count D)) i

  pub turn_of : (v : Vec4) → turned_tangent p.axis (get_or C i nan ⊖ wanted ⊖ p.offset) v ≡ turn (plan_of C D p i) v
  unfolding turn_angle
  turn_of v = rw (get_or-take p.count C i nan b)

  pub next_of : plan_of C (set D i wanted) p (i + 1) ≡ next (plan_of C D p i)
  unfolding next
  next_of = rw (add-one i, take-set-lt p.count D i wanted b)
