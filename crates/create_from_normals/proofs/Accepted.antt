-- What an accepted call establishes of its lists. Assumes nothing.
use Prim.Native.Nat.{ℕ, ◌*◌, ◌/◌, ◌%◌, ◌<◌}
use native.Mathlib.Omega.{arith}
use mathlib.Core.Path.{◌≡◌, refl, ◌∙◌}
use mathlib.Core.Bool.{true, ◌&&◌}
use mathlib.Core.List.{List}
use borrow.Author.Tests.{eqb-true}
use lib.ListN.{length}
use lib.Dec.{eqb}
use lib.IntN.{ℤ}
use lib.Ieee.{Float}
use Rattle.mesh.specs.Mesh.{halfedge_stride, no_index, as_halfedges, prop_vert}
use Rattle.questions.specs.Questions.{has_length}
use Rattle.questions.specs.Check.{check_mesh, check_rows}
use Rattle.mesh.specs.Sound.{Sound}
use Rattle.std.specs.Prelude.{Ok}
use Rattle.std.proofs.lemmas.Bool.{and_parts}
use Rattle.questions.proofs.Lengths.{has_length_lem, has_one}
use Rattle.questions.proofs.Accepted.{accepted, rows_exactly, refs_exactly}
use Rattle.mesh.proofs.Inside.{list_numbers}
use Rattle.create_from_normals.specs.State.State.{RowIn}
use Rattle.create_from_normals.specs.Whole.Core.{ScratchIn}
use Rattle.create_shared.proofs.Lengths.{MeshListsFit, mesh_lists_fit_lem}
use Rattle.create_from_normals.specs.FromNormals.{lists_fit, scratch_fits, check_normals, check_lists}

-- question 2 of the lists read and of the tangents
record ListsFit (h l m a g t n p : ℕ) : Type 0 where
  mesh_lists : MeshListsFit h l m a n p
  row_numbers : g % 3 ≡ 0
  tangents : t ≡ n * 4

lists_fit_lem : (h l m a r g t n p : ℕ) → lists_fit h l m a r g t n p ≡ true → ListsFit h l m a g t n p
lists_fit_lem h l m a r g t n p e =
    let e₇ = and_parts _ (has_length t n 4) e in
    let e₆ = and_parts _ (eqb (g % 3) 0) e₇.0 in
    record {
      mesh_lists = mesh_lists_fit_lem h l m a r n p e₆.0;
      row_numbers = eqb-true _ _ e₆.1;
      tangents = has_length_lem t n 4 e₇.1;
    }

-- and of scratch
record ScratchFits (x q c d f n p : ℕ) : Type 0 where
  fixed : x ≡ n
  inside : q ≡ n
  current : c ≡ n
  desired : d ≡ n
  points : f ≡ p

scratch_fits_lem : (x q c d f n p : ℕ) → scratch_fits x q c d f n p ≡ true → ScratchFits x q c d f n p
scratch_fits_lem x q c d f n p e =
    let e₅ = and_parts _ (has_length f p 1) e in
    let e₄ = and_parts _ (has_length d n 1) e₅.0 in
    let e₃ = and_parts _ (has_length c n 1) e₄.0 in
    let e₂ = and_parts (has_length x n 1) (has_length q n 1) e₃.0 in
    record {
      fixed = has_one x n e₂.0;
      inside = has_one q n e₂.1;
      current = has_one c n e₃.1;
      desired = has_one d n e₄.1;
      points = has_one f p e₅.1;
    }

-- the row of each halfedge, in a list of g numbers
rows_in : (list : List ℤ) (G : List Float) (n : ℕ) → length list ≡ n * halfedge_stride → length G % 3 ≡ 0
    → ((e : ℕ) → e < n → (prop_vert list e < no_index) × (prop_vert list e < length G / 3)) → (e : ℕ) → e < n → RowIn list G e
rows_in list G n whole thirds rows e h = record {
  within = omega (arith, whole);
  row_index = (rows e h).0;
  row_in = omega (arith, thirds, (rows e h).1);
}

-- what `NormalLists` keeps of the lists that are read, and the lengths of those that are written
pub record Lists (list : List ℤ) (P N A G T : List Float) (X Q : List ℕ) (C D : List Float) (F : List ℕ) (n p : ℕ) : Type 0 where
  pub sound : Sound (as_halfedges list) n p
  pub whole : (as_halfedges list).numbers ≡ n * halfedge_stride
  pub positions : length P ≡ p * 3
  pub point_normals : length N ≡ p * 3
  pub triangle_normals : length A ≡ n
  pub halfedge_normals : (e : ℕ) → e < n → RowIn list G e
  pub written : ScratchIn T X Q C D F n p

-- the lists of an accepted call
pub lists_of : (list : List ℤ) (P N A : List Float) (R : List ℤ) (G T : List Float) (X Q : List ℕ) (C D : List Float) (F : List ℕ) (n p : ℕ)
    → check_lists list P N A R G T X Q C D F n p ≡ Ok tt → Lists list P N A G T X Q C D F n p
unfolding check_normals
lists_of list P N A R G T X Q C D F n p e =
    let H = as_halfedges list in
    let rows = length G / 3 in
    let lengths = lists_fit (length list) (length P) (length N) (length A) (length R) (length G) (length T) n p && scratch_fits (length X) (length Q) (length C) (length D) (length F) n p in
    let mesh = check_mesh H n p lengths in
    let r = (rows_exactly mesh n list rows refl).0 ((refs_exactly (check_rows mesh list rows n) n R refl).0 e).0 in
    let b = accepted H n p lengths r.0 in
    let q = and_parts _ _ b.0 in
    let l = lists_fit_lem _ _ _ _ _ _ _ n p q.0 in
    let s = scratch_fits_lem _ _ _ _ _ n p q.1 in
    record {
      sound = b.1;
      whole = list_numbers list ∙ l.mesh_lists.halfedges;
      positions = omega (arith, l.mesh_lists.positions);
      point_normals = omega (arith, l.mesh_lists.normals);
      triangle_normals = l.mesh_lists.face_normals b.1.triangles;
      halfedge_normals = rows_in list G n l.mesh_lists.halfedges l.row_numbers r.1;
      written = record {
        made = record { tangents = l.tangents; fixed = s.fixed; inside = s.inside; points = s.points };
        current = s.current;
        desired = s.desired;
      };
    }
