-- What `create_tangents` asks, on the pillow: what is accepted, and what is refused.
use Rattle.std.specs.Prelude.{ℕ, ◌≡◌, List, [], ◌∷◌, map, replicate, ℤ, pos, Float, Ok}
use Rattle.std.specs.Float.Ieee.{neg}
use Rattle.float.specs.Ops.{zero, one, half}
use Rattle.common.specs.Pillow.{pillow, refs}
use Rattle.mesh.specs.Mesh.{as_halfedges}
use Rattle.questions.specs.Check.{Checked, refused}
use Rattle.questions.specs.declared.Question.TheVariants.{Lengths, Mesh, Entry, Sign}
use Rattle.create.specs.Create.{check_lists}

-- the answer, with so many places in the last scratch list, face references and sharp entries
abbrev pub answer : ℕ → List ℤ → List ℕ → List Float → Checked
answer k R entries values =
    check_lists (as_halfedges pillow) (replicate 9 one) (replicate 9 one) (replicate 6 one) R entries values (replicate 24 one)
    (replicate 6 0) (replicate 6 0) (replicate 6 one) (replicate 6 one) (replicate 3 0) (replicate k 0) 6 3

pub record CreateQuestionsHold : Type 0 where
  pub accepted : answer 6 refs (0 ∷ 5 ∷ 0 ∷ []) (half ∷ one ∷ zero ∷ []) ≡ Ok tt
  -- scratch is too long
  pub too_long : answer 7 refs [] [] ≡ refused Lengths 0
  -- more entries than values
  pub unequal : answer 6 refs (0 ∷ []) [] ≡ refused Lengths 0
  -- triangle 1 has the mesh number 0
  pub no_mesh : answer 6 (map pos (1 ∷ 0 ∷ 0 ∷ 0 ∷ 1 ∷ 1 ∷ [])) (6 ∷ []) (half ∷ []) ≡ refused Mesh 1
  -- entry 1 names no halfedge
  pub no_halfedge : answer 6 refs (0 ∷ 6 ∷ []) (neg zero ∷ half ∷ []) ≡ refused Entry 1
  -- a smoothness of -0
  pub negative_zero : answer 6 refs (0 ∷ []) (neg zero ∷ []) ≡ refused Sign 0
