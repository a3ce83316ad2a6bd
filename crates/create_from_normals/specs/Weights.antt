-- The weights that `create_tangents_from_normals` leaves on an accepted mesh. On its way it gives the weight -3 to a halfedge whose normal is missing, and reads it back; none is left at the end. H are the halfedges, P the positions, N the point normals, A the face normals, R the face references, `normal` gives the normal of a halfedge, T the tangents, as lent or as they stand, `old` whether these are old tangents, n and p the counts of halfedges and points.
use Rattle.std.specs.Prelude.{ℕ, ◌<◌, ◌≡◌, ◌⊎◌, List, Bool, true, ℤ, Float}
use Rattle.float.specs.Ops.{zero}
use Rattle.linalg.specs.declared.Vec3.{Vec3}
use Rattle.mesh.specs.Mesh.{Halfedges}
use Rattle.questions.specs.Questions.{sign_clear}
use Rattle.mesh.specs.Sound.{Sound}
use Rattle.smoothing.specs.Directions.{circular_tangent}
use Rattle.smoothing.specs.Lists.{weight_at}
use Rattle.smoothing.specs.Edges.{edge_vec}
use Rattle.create_from_normals.specs.Steps.Steps.{inside_quad_weight, missing_normal_weight}
use Rattle.create_from_normals.specs.Whole.Core.{create_tangents_from_normals}

-- What the weight w of halfedge e can be: -1 inside a quad, 0 in a further vertex cycle of a point, and else that of a circular tangent along its edge.
pub data MadeWeight (H : Halfedges) (P : List Float) (e : ℕ) (w : Float) : Type 0 where
  inside : w ≡ inside_quad_weight → MadeWeight H P e w
  further : w ≡ zero → MadeWeight H P e w
  circular : (dir : Vec3) → w ≡ (circular_tangent dir (edge_vec H P e)).w → MadeWeight H P e w

-- What is claimed of the tangents T
pub record Weights (H : Halfedges) (P T : List Float) (n : ℕ) : Type 0 where
  pub made : (e : ℕ) → e < n → MadeWeight H P e (weight_at T e)
  -- so each is -1, or a number with a clear sign bit
  pub mark_or_clear : (e : ℕ) → e < n → (weight_at T e ≡ inside_quad_weight) ⊎ (sign_clear (weight_at T e) ≡ true)
  -- so none is -3
  pub none_missing : (e : ℕ) → e < n → weight_at T e ≡ missing_normal_weight → ⊥

-- THE CLAIM, for every sound mesh, every normal of its halfedges and any other lists
abbrev pub WeightsOf : Type 0
WeightsOf =
    (H : Halfedges) (P N A : List Float) (R : List ℤ) (normal : ℕ → Vec3) (T : List Float) (old : Bool) (n p : ℕ)
    → Sound H n p
    → Weights H P (create_tangents_from_normals H P N A R normal T old n p) n
