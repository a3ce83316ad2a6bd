-- What an accepted call establishes of its lists.
use mathlib.Core.Path.{◌≡◌, refl}
use mathlib.Core.List.{List}
use mathlib.Core.Bool.{Bool, true, ◌&&◌}
use Prim.Native.Nat.{ℕ, ◌*◌}
use lib.ListN.{length}
use native.Mathlib.Omega.{arith}
use Rattle.std.proofs.lemmas.Grind.{common_steps}
use lib.Ieee.{Float}
use Rattle.mesh.specs.Mesh.{halfedge_stride, Halfedges}
use Rattle.mesh.specs.Sound.{Sound}
use Rattle.std.specs.Prelude.{Ok}
use Rattle.std.proofs.lemmas.Bool.{and_parts}
use Rattle.questions.proofs.Accepted.{accepted, flags_exactly}
use Rattle.questions.specs.Questions.{has_length}
use Rattle.distribute.specs.Distribute.{lists_fit, check_with, check_lists}
use Rattle.distribute.specs.Preview.Preview as Preview

-- the lists that spreading and its preview read or turn have their lengths
pub record Read (H : Halfedges) (P N : List Float) (X : List ℕ) (T : List Float) (n p : ℕ) : Type 0 where
  pub whole : H.numbers ≡ n * halfedge_stride
  pub positions : length P ≡ p * 3
  pub normals : length N ≡ p * 3
  pub flags : length X ≡ n
  pub tangents : length T ≡ n * 4

read_of : (H : Halfedges) (P N : List Float) (X : List ℕ) (T : List Float) (others : Bool) (n p : ℕ) → check_with H P N X T others n p ≡ Ok tt
    → Sound H n p × Read H P N X T n p × (others ≡ true)
read_of H P N X T others n p e =
    let m = accepted H n p (lists_fit H P N X T n p && others) ((flags_exactly _ n X refl).0 e).0 in
    let a = and_parts (lists_fit H P N X T n p) others m.0 in (
      m.1,
      record {
        whole = grind (arith, common_steps);
        positions = grind (arith, common_steps);
        normals = grind (arith, common_steps);
        flags = grind (arith, common_steps);
        tangents = grind (arith, common_steps);
      },
      a.1,
    )

-- spreading
pub lists_of : (H : Halfedges) (P N : List Float) (X : List ℕ) (T C D : List Float) (n p : ℕ) → check_lists H P N X T C D n p ≡ Ok tt
    → Sound H n p × Read H P N X T n p × (length C ≡ n) × (length D ≡ n)
unfolding check_lists
lists_of H P N X T C D n p e =
    let r = read_of H P N X T (has_length (length C) n 1 && has_length (length D) n 1) n p e in
    (r.0, r.1, grind (arith, common_steps), grind (arith, common_steps))

-- its preview
pub preview_lists_of : (H : Halfedges) (P N : List Float) (X : List ℕ) (T : List Float) (Y : List ℕ) (n p : ℕ) → Preview.check_lists H P N X T Y n p ≡ Ok tt
    → Sound H n p × Read H P N X T n p × (length Y ≡ n)
unfolding Preview.check_lists
preview_lists_of H P N X T Y n p e =
    let r = read_of H P N X T (has_length (length Y) n 1) n p e in
    (r.0, r.1, grind (arith, common_steps))
