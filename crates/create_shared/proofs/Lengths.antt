-- What question 2 establishes of the lists that both makings read. Assumes nothing.
use Prim.Native.Nat.{ℕ, ◌*◌, ◌/◌, ◌%◌}
use native.Mathlib.Omega.{arith}
use mathlib.Core.Path.{◌≡◌}
use mathlib.Core.Bool.{true}
use Rattle.mesh.specs.Mesh.{halfedge_stride, ref_stride}
use Rattle.questions.specs.Questions.{has_length}
use Rattle.std.proofs.lemmas.Bool.{and_parts}
use Rattle.questions.proofs.Lengths.{has_length_lem}
use Rattle.create_shared.specs.Lengths.{mesh_lists_fit}

pub record MeshListsFit (h l m a n p : ℕ) : Type 0 where
  pub halfedges : h ≡ n * halfedge_stride
  pub positions : l ≡ p * 3
  pub normals : m ≡ p * 3
  pub face_normals : n % 3 ≡ 0 → a ≡ n

-- three numbers for each triangle are one for each halfedge
three_each : (a n : ℕ) → a ≡ n / 3 * 3 → n % 3 ≡ 0 → a ≡ n
three_each a n e d = omega arith

pub mesh_lists_fit_lem : (h l m a r n p : ℕ) → mesh_lists_fit h l m a r n p ≡ true → MeshListsFit h l m a n p
mesh_lists_fit_lem h l m a r n p e =
    let e₅ = and_parts _ (has_length r (n / 3) ref_stride) e in
    let e₄ = and_parts _ (has_length a (n / 3) 3) e₅.0 in
    let e₃ = and_parts _ (has_length m p 3) e₄.0 in
    let e₂ = and_parts (has_length h n halfedge_stride) (has_length l p 3) e₃.0 in
    record {
      halfedges = has_length_lem h n halfedge_stride e₂.0;
      positions = has_length_lem l p 3 e₂.1;
      normals = has_length_lem m p 3 e₃.1;
      face_normals = three_each a n (has_length_lem a (n / 3) 3 e₄.1);
    }
