-- The program reads no row: each operation takes the halfedges as `as_halfedges` has them. Assumes nothing.
use Prim.Native.Nat.{ℕ, ◌*◌}
use mathlib.Core.Path.{◌≡◌, refl, sym, ◌∙◌}
use mathlib.Core.List.{List, ◌++◌}
use lib.ListN.{drop}
use lib.Ieee.{Float}
use Rattle.mesh.specs.Mesh.{as_halfedges}
use Rattle.mesh.proofs.Rows.{same_halfedges}
use Rattle.records.specs.Records.{parse_input}
use Rattle.records.specs.declared.Operation.{Operation}
use Rattle.records.specs.declared.Operation.TheVariants.{Spread}
use Rattle.records.specs.declared.Input.{Input}
use Rattle.std.specs.Prelude.{Result, Ok, Err}
use Rattle.questions.specs.declared.Refusal.{Refusal}
use Rattle.program.specs.Operations.Operations.{operation_lines, operation_tangents, operation_scratch}
use Rattle.program.specs.Program.{positions_of, halfedges_of, tangents_of, normals_of, fixed_of, output_of, tangents_after, scratch_after}
use Rattle.program.specs.Rows.{SameLists, SameInputs, InputRowsUnread}
use Rattle.program.proofs.Inputs.{only_spread}

-- ---- one operation

module _ (s s' : List ℕ) (o : Operation) (p n : ℕ) (h : SameLists s s' o p n) where
  same_mesh : as_halfedges (halfedges_of s p n) ≡ as_halfedges (halfedges_of s' p n)
  same_mesh = same_halfedges (halfedges_of s p n) (halfedges_of s' p n) n h.halfedges

  spread_lists : o ≡ Spread → (normals_of s p n ≡ normals_of s' p n) × (fixed_of s p n ≡ fixed_of s' p n)
  spread_lists e = (h.normals e, h.fixed e)

  same_lines :
      operation_lines o (as_halfedges (halfedges_of s p n)) (positions_of s p n) (normals_of s p n) (fixed_of s p n) (tangents_of s p n) n p
      ≡ operation_lines o (as_halfedges (halfedges_of s' p n)) (positions_of s' p n) (normals_of s' p n) (fixed_of s' p n) (tangents_of s' p n) n p
  same_lines =
      rw (same_mesh, h.positions, h.tangents)
      (only_spread o (λ q N X. operation_lines q (as_halfedges (halfedges_of s' p n)) (positions_of s' p n) N X (tangents_of s' p n) n p) _ (normals_of s' p n) _ (fixed_of s' p n) refl refl spread_lists)

  same_tangents : (lent : List Float) →
      operation_tangents o (as_halfedges (halfedges_of s p n)) (positions_of s p n) (normals_of s p n) (fixed_of s p n) (tangents_of s p n) n p ++ drop (4 * n) lent
      ≡ operation_tangents o (as_halfedges (halfedges_of s' p n)) (positions_of s' p n) (normals_of s' p n) (fixed_of s' p n) (tangents_of s' p n) n p ++ drop (4 * n) lent
  same_tangents lent =
      rw (same_mesh, h.positions, h.tangents)
      (only_spread o (λ q N X. operation_tangents q (as_halfedges (halfedges_of s' p n)) (positions_of s' p n) N X (tangents_of s' p n) n p ++ drop (4 * n) lent) _ (normals_of s' p n) _ (fixed_of s' p n) refl refl spread_lists)

  same_scratch : (lent : List Float) →
      operation_scratch o (as_halfedges (halfedges_of s p n)) (positions_of s p n) (normals_of s p n) (fixed_of s p n) (tangents_of s p n) n p lent
      ≡ operation_scratch o (as_halfedges (halfedges_of s' p n)) (positions_of s' p n) (normals_of s' p n) (fixed_of s' p n) (tangents_of s' p n) n p lent
  same_scratch lent =
      rw (same_mesh, h.positions, h.tangents)
      (only_spread o (λ q N X. operation_scratch q (as_halfedges (halfedges_of s' p n)) (positions_of s' p n) N X (tangents_of s' p n) n p lent) _ (normals_of s' p n) _ (fixed_of s' p n) refl refl spread_lists)

-- ---- the program

module _ (s s' : List ℕ) (h : SameInputs s s') where
  both : (q : Result Input Refusal) → parse_input s ≡ q → parse_input s' ≡ q
  both q e = sym h.parsed ∙ e

  output : (q : Result Input Refusal) → parse_input s ≡ q → output_of s ≡ output_of s'
  unfolding output_of
  output (Err refusal) e = rw (e, both _ e)
  output (Ok i) e = rw (e, both _ e) (same_lines s s' _ _ _ (h.lists i e))

  tangents : (lent : List Float) (q : Result Input Refusal) → parse_input s ≡ q → tangents_after s lent ≡ tangents_after s' lent
  unfolding tangents_after
  tangents lent (Err refusal) e = rw (e, both _ e)
  tangents lent (Ok i) e = rw (e, both _ e) (same_tangents s s' _ _ _ (h.lists i e) lent)

  scratch : (lent : List Float) (q : Result Input Refusal) → parse_input s ≡ q → scratch_after s lent ≡ scratch_after s' lent
  unfolding scratch_after
  scratch lent (Err refusal) e = rw (e, both _ e)
  scratch lent (Ok i) e = rw (e, both _ e) (same_scratch s s' _ _ _ (h.lists i e) lent)

pub input_rows_unread : InputRowsUnread
input_rows_unread s s' h =
    record {
      output = output s s' h (parse_input s) refl;
      tangents = λ lent. tangents s s' h lent (parse_input s) refl;
      scratch = λ lent. scratch s s' h lent (parse_input s) refl;
    }
