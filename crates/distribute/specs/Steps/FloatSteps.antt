-- The float steps of `distribute_tangents` of src/smoothing_tangents.rs, operation by operation, and the record that fills them into spreading. H are the halfedges, P the positions, N the point normals, X the flags. A read past the end of a list of angles gives not-a-number; specs/Claims.antt says that there is none.
use Rattle.std.specs.Prelude.{ℕ, suc, ◌+◌, ◌-◌, List, [], ◌∷◌, ◌++◌, Bool, cond, not, ◌&&◌, ◌||◌, length, get_or, set, pos, eqb, ltb, Float}
use Rattle.std.specs.Float.{nan, binary64}
use Rattle.std.specs.Float.Ieee.{lt, eq, neg, of_int}
use Rattle.float.specs.Ops.{◌⊕◌, ◌⊖◌, ◌⊗◌, ◌⊘◌, zero, one, pi, two_pi}
use Rattle.linalg.specs.declared.Vec3.{Vec3}
use Rattle.linalg.specs.declared.Vec4.{Vec4}
use Rattle.linalg.specs.Vec.{add3, sub3, cross_of, dot_of, qrot_of, rotation_quat_axis_angle}
use Rattle.mesh.specs.Mesh.{start_vert, end_vert, Halfedges}
use Rattle.common.specs.Fold.{fold_to}
use Rattle.smoothing.specs.Directions.{vec3_from_vec4, with_weight, safe_normalize, wrap_of, angle_between}
use Rattle.smoothing.specs.Lists.{point_at, tangent_at, put_tangent}
use Rattle.cycles.specs.Cycles.{next_around}
use Rattle.distribute.specs.Spread.Steps.{Steps}

-- ---- what is read

-- `is_marked_inside_quad`, of a weight
abbrev pub is_mark : Float → Bool
is_mark w = eq w (neg one)

-- `fixed_halfedges[e]`
abbrev pub is_fixed : List ℕ → ℕ → Bool
is_fixed X e = eqb (get_or X e 0) 1

-- fixed and unmarked: a start, and where the first walk ends
abbrev pub is_start : List ℕ → List Float → ℕ → Bool
is_start X T e = not (is_mark (tangent_at T e).w) && is_fixed X e

-- `approx_normal`: the normal of the start's point
abbrev pub approx_normal : Halfedges → List Float → ℕ → Vec3
approx_normal H N start = point_at N (start_vert H start)

-- `this_edge_vec`: the direction from the start's point, `center`, to the end of the halfedge `current`
unfoldable pub edge_direction : Halfedges → List Float → ℕ → ℕ → Vec3
edge_direction H P start current = safe_normalize (sub3 (point_at P (end_vert H current)) (point_at P (start_vert H start)))

-- `this_tangent`: the direction of a tangent
unfoldable pub tangent_direction : Vec4 → Vec3
tangent_direction v = safe_normalize (vec3_from_vec4 v)

-- the last of the first k numbers of a list, d where k is 0: `last().copied().unwrap_or(d)`
unfoldable pub last_or : List Float → ℕ → Float → Float
last_or l k d = cond (eqb k 0) d (get_or l (k - 1) nan)

-- ---- the first walk

-- what it gathers
pub record Gathered : Type 0 where
  pub normal : Vec3
  pub current_angle : List Float
  pub desired_angle : List Float
  pub last_edge : Vec3
  pub first_tangent : Vec3
  pub last_tangent : Vec3

-- at the start, with its tangent
unfoldable pub begin : Halfedges → List Float → ℕ → Vec4 → Gathered
begin H P start v =
    let tangent = tangent_direction v in
    record {
      normal = record { x = zero; y = zero; z = zero };
      current_angle = [];
      desired_angle = [];
      last_edge = edge_direction H P start start;
      first_tangent = tangent;
      last_tangent = tangent;
    }

-- the angle from the first tangent, beyond half a turn where the approximate normal says so
unfoldable pub angle_around : Vec3 → Vec3 → Vec3 → Float
angle_around approx tangent first =
    let angle = angle_between tangent first in
    cond (lt (dot_of approx (cross_of tangent first)) zero) (two_pi ⊖ angle) angle

-- the next current angle: a whole turn where the walk has come back to its start
unfoldable pub next_current : Bool → Vec3 → Vec3 → Vec3 → Float
next_current back approx tangent first = cond back two_pi (angle_around approx tangent first)

-- `cumulative`, the next desired angle, after k of them
unfoldable pub next_desired : Vec3 → Vec3 → List Float → ℕ → Float
next_desired edge last_edge desired k = angle_between edge last_edge ⊕ last_or desired k zero

-- `normal`, with the cross product of one tangent more
unfoldable pub next_normal : Vec3 → Vec3 → Vec3 → Vec3
next_normal normal tangent last = add3 normal (cross_of tangent last)

-- an unmarked halfedge with this direction of its edge and this tangent; `back` says that it is the start
unfoldable pub gather_edge : Vec3 → Vec3 → Bool → Vec4 → Gathered → Gathered
gather_edge approx edge back v g =
    let tangent = tangent_direction v in
    record {
      normal = next_normal g.normal tangent g.last_tangent;
      current_angle = g.current_angle ++ (next_current back approx tangent g.first_tangent ∷ []);
      desired_angle = g.desired_angle ++ (next_desired edge g.last_edge g.desired_angle (length g.desired_angle) ∷ []);
      last_edge = edge;
      first_tangent = g.first_tangent;
      last_tangent = tangent;
    }

-- the first walk from `start` comes to the halfedge `current` with the tangent v
abbrev pub gather : Halfedges → List Float → List Float → ℕ → ℕ → Vec4 → Gathered → Gathered
gather H P N start current v g = gather_edge (approx_normal H N start) (edge_direction H P start current) (eqb current start) v g

-- one angle, or a normal of length 0: nothing is turned
unfoldable pub turns_none : ℕ → Vec3 → Bool
turns_none count normal = eqb count 1 || eq (dot_of normal normal) zero

-- ---- the second walk

-- what it goes by; `index` is the Rust's i
pub record Plan : Type 0 where
  pub current_angle : List Float
  pub desired_angle : List Float
  pub scale : Float
  pub offset : Float
  pub axis : Vec3
  pub index : ℕ

-- one turn of the loop that sums the offset
unfoldable pub add_offset : Float → List Float → List Float → Float → ℕ → Float
add_offset scale current desired sum i = sum ⊕ wrap_of (get_or current i nan ⊖ scale ⊗ get_or desired i nan)

-- the loop over k angles
abbrev pub offset_sum : Float → List Float → List Float → ℕ → Float
offset_sum scale current desired k = fold_to (add_offset scale current desired) zero k

-- `scale`, of k angles
unfoldable pub scale_of : List Float → List Float → ℕ → Float
scale_of current desired k = last_or current k two_pi ⊘ last_or desired k two_pi

-- `offset`, of k angles: 0 unless the first walk came back to its start
unfoldable pub offset_of : Bool → Float → List Float → List Float → ℕ → Float
offset_of back scale current desired k = cond back (offset_sum scale current desired k ⊘ of_int binary64 (pos k)) zero

-- from the start, the halfedge where the first walk ended, and what it gathered
unfoldable pub plan : ℕ → ℕ → Gathered → Plan
plan start last g =
    let k = length g.current_angle in
    let scale = scale_of g.current_angle g.desired_angle k in
    record {
      current_angle = g.current_angle;
      desired_angle = g.desired_angle;
      scale = scale;
      offset = offset_of (eqb last start) scale g.current_angle g.desired_angle k;
      axis = safe_normalize g.normal;
      index = 0;
    }

-- an angle clamped to half a turn from the one before it, or else from the one after it, if there are more
unfoldable pub clamp_angle : Float → Float → Bool → Float → Float
clamp_angle angle last more following =
    cond (lt pi (angle ⊖ last)) (last ⊕ pi) (cond (more && lt pi (following ⊖ angle)) (following ⊖ pi) angle)

-- `desired_angle[i]` of k, scaled and clamped
unfoldable pub clamped_angle : Float → List Float → ℕ → ℕ → Float
clamped_angle scale desired k i =
    clamp_angle (get_or desired i nan ⊗ scale) (last_or desired i zero) (ltb (i + 1) k) (scale ⊗ get_or desired (i + 1) nan)

-- the clamped angle at the plan's index
abbrev pub desired_angle : Plan → Float
desired_angle p = clamped_angle p.scale p.desired_angle (length p.desired_angle) p.index

-- `angle`: what is to be turned by
unfoldable pub turn_angle : Plan → Float
turn_angle p = get_or p.current_angle p.index nan ⊖ desired_angle p ⊖ p.offset

-- a tangent turned about an axis, its weight kept
unfoldable pub turned_tangent : Vec3 → Float → Vec4 → Vec4
turned_tangent axis angle v =
    with_weight (qrot_of (rotation_quat_axis_angle axis angle) (vec3_from_vec4 v)) v.w

-- the tangent turned as the plan says
abbrev pub turn : Plan → Vec4 → Vec4
turn p v = turned_tangent p.axis (turn_angle p) v

-- the clamped angle is kept, for the next one reads it
unfoldable pub next : Plan → Plan
next p = record {
  current_angle = p.current_angle;
  desired_angle = set p.desired_angle p.index (desired_angle p);
  scale = p.scale;
  offset = p.offset;
  axis = p.axis;
  index = suc p.index;
}

-- ---- spreading with these steps, over n halfedges

abbrev pub float_steps : Halfedges → List Float → List Float → List ℕ → ℕ → Steps
float_steps H P N X n = record {
  Tangents = List Float;
  Tangent = Vec4;
  Weight = Float;
  Gathered = Gathered;
  Plan = Plan;
  n = n;
  step = next_around H;
  fixed = is_fixed X;
  read = tangent_at;
  write = put_tangent;
  weight = λ v. v.w;
  is_mark = is_mark;
  begin = begin H P;
  gather = gather H P N;
  turns_none = λ g. turns_none (length g.current_angle) g.normal;
  plan = plan;
  turn = turn;
  next = next;
}
