-- How the code holds what the walks go by: the numbers in a struct, the angles in the first places of the two scratch lists C (`current_angle`) and D (`desired_angle`). Only contracts inside a call name these definitions.
use Rattle.std.specs.Prelude.{ℕ, ◌+◌, ◌*◌, ◌≤◌, ◌<◌, ◌≡◌, List, length, take, Float}
use Rattle.linalg.specs.declared.Vec4.{Vec4}
use Rattle.mesh.specs.Mesh.{start_vert, end_vert, Halfedges}
use Rattle.mesh.specs.Inside.{Inside}
use Rattle.smoothing.specs.Lists.{tangent_at}
use Rattle.distribute.specs.Steps.FloatSteps.{Gathered, Plan, edge_direction, tangent_direction}
use Rattle.distribute.specs.declared.steps.Carried.{Carried}
use Rattle.distribute.specs.declared.steps.Directions.{Directions}
use Rattle.distribute.specs.declared.steps.Turning.{Turning}

-- what the first walk has gathered
abbrev pub gathered_of : List Float → List Float → Carried → Gathered
gathered_of C D g = record {
  normal = g.normal;
  current_angle = take g.count C;
  desired_angle = take g.count D;
  last_edge = g.last_edge;
  first_tangent = g.first_tangent;
  last_tangent = g.last_tangent;
}

-- the two directions at halfedge e of a walk from `start`
abbrev pub directions_at : Halfedges → List Float → List Float → ℕ → ℕ → Directions
directions_at H P T start e = record { edge = edge_direction H P start e; tangent = tangent_direction (tangent_at T e) }

-- what the second walk goes by, at angle i
abbrev pub plan_of : List Float → List Float → Turning → ℕ → Plan
plan_of C D p i = record {
  current_angle = take p.count C;
  desired_angle = take p.count D;
  scale = p.scale;
  offset = p.offset;
  axis = p.axis;
  index = i;
}

-- ---- what the lists must hold for a call

-- both halfedges stand in the list, and the start's point and the end of `current` have a position
pub record EdgeFrom (H : Halfedges) (P : List Float) (start current : ℕ) : Type 0 where
  pub start_inside : Inside H start
  pub current_inside : Inside H current
  pub center_in : start_vert H start * 3 + 3 ≤ length P
  pub end_in : end_vert H current * 3 + 3 ≤ length P

-- each list has a place for one angle more, and the second direction is that of a tangent
pub record GatherRoom (C D : List Float) (at : Directions) (g : Carried) : Type 0 where
  pub current_in : g.count < length C
  pub desired_in : g.count < length D
  pub tangent : Vec4
  pub tangent_is : at.tangent ≡ tangent_direction tangent

-- halfedge e has a tangent, and there is an angle i: the lists of angles are not read past their end
pub record TurnRoom (T C D : List Float) (p : Turning) (i e : ℕ) : Type 0 where
  pub tangent_in : e * 4 + 4 ≤ length T
  pub angle_in : i < p.count
  pub current_in : p.count ≤ length C
  pub desired_in : p.count ≤ length D
