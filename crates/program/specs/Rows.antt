-- What is claimed of the rows in an input: the program reads none. Two inputs that are the same but for their rows have the same output, and leave the same tangents and scratch. proofs/Rows.antt proves it. p and n are the counts of points and halfedges.
use Rattle.std.specs.Prelude.{ℕ, ◌≡◌, List, Float, Ok}
use Rattle.mesh.specs.Rows.{SameButRows}
use Rattle.records.specs.Records.{parse_input}
use Rattle.records.specs.declared.Operation.{Operation}
use Rattle.records.specs.declared.Operation.TheVariants.{Spread}
use Rattle.records.specs.declared.Input.{Input}
use Rattle.program.specs.Program.{positions_of, halfedges_of, tangents_of, normals_of, fixed_of, output_of, tangents_after, scratch_after}

-- the same lists for an operation, but for the rows of the n halfedges
pub record SameLists (s s' : List ℕ) (operation : Operation) (p n : ℕ) : Type 0 where
  pub positions : positions_of s p n ≡ positions_of s' p n
  pub halfedges : SameButRows (halfedges_of s p n) (halfedges_of s' p n) n
  pub tangents : tangents_of s p n ≡ tangents_of s' p n
  -- only spreading has point normals and fixed halfedges
  pub normals : operation ≡ Spread → normals_of s p n ≡ normals_of s' p n
  pub fixed : operation ≡ Spread → fixed_of s p n ≡ fixed_of s' p n

-- the same answer to the records, and the same lists but for the rows where they are accepted
pub record SameInputs (s s' : List ℕ) : Type 0 where
  pub parsed : parse_input s ≡ parse_input s'
  pub lists : (input : Input) → parse_input s ≡ Ok input → SameLists s s' input.operation input.counts.points input.counts.halfedges

-- what is the same of both
pub record SameAnswer (s s' : List ℕ) : Type 0 where
  pub output : output_of s ≡ output_of s'
  pub tangents : (lent : List Float) → tangents_after s lent ≡ tangents_after s' lent
  pub scratch : (lent : List Float) → scratch_after s lent ≡ scratch_after s' lent

-- THE CLAIM, for every two inputs
abbrev pub InputRowsUnread : Type 0
InputRowsUnread = (s s' : List ℕ) → SameInputs s s' → SameAnswer s s'
