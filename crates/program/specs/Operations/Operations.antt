-- The operations of the program `tangents` on the lists of an input, and the lines that they print. H are the halfedges, P the positions, N the point normals, X the flags of fixed halfedges, T the tangents, n and p the counts of halfedges and points.
use Rattle.std.specs.Prelude.{ℕ, ◌*◌, ◌≤◌, ◌≡◌, List, ◌++◌, replicate, drop, Float, Result, Ok, Err}
use Rattle.float.specs.Ops.{zero}
use Rattle.mesh.specs.Mesh.{halfedge_stride, Halfedges}
use Rattle.questions.specs.Check.{Checked, answer_of, when_accepted}
use Rattle.questions.specs.declared.Refusal.{Refusal}
use Rattle.linearize.specs.Linearize.{linearize_answer, tangents_after as straightened}
use Rattle.validate.specs.Validate.{Validity, valid_answer}
use Rattle.distribute.specs.Distribute.{Spreading, check_lists, distribute_tangents, tangents_after as spread}
use Rattle.records.specs.Records.{max_input, mesh_kinds, records_length}
use Rattle.records.specs.declared.Operation.{Operation}
use Rattle.records.specs.declared.Operation.TheVariants.{Straighten, Spread as Spreads, Check}
use Rattle.program.specs.Lines.Lines.{lines_of, halfedges_in, printed}
use Rattle.program.specs.declared.lines.Output.{Output}
use Rattle.program.specs.declared.lines.Output.TheVariants.{Tangents, Spread, Valid}

-- ---- what is printed of a call's answer, and its lines over the tangents that the call leaves

abbrev pub straighten_output : Checked → ℕ → Result Output Refusal
straighten_output checked n = answer_of checked (Tangents n)

unfoldable pub straighten_lines : Halfedges → List Float → List Float → ℕ → ℕ → List ℕ
straighten_lines H P T n p = lines_of (printed (straighten_output (linearize_answer H P T n p) n)) (straightened H P T n p)

abbrev pub spread_output : Spreading → ℕ → Result Output Refusal
spread_output (Ok counts) n = Ok (Spread n counts.looked counts.turned)
spread_output (Err refusal) n = Err refusal

-- both scratch lists have a place for each halfedge
abbrev pub scratch : ℕ → List Float
scratch n = replicate n zero

unfoldable pub spread_lines : Halfedges → List Float → List Float → List ℕ → List Float → ℕ → ℕ → List ℕ
spread_lines H P N X T n p =
    lines_of (printed (spread_output (distribute_tangents H P N X T (scratch n) (scratch n) n p) n)) (spread H P N X T (scratch n) (scratch n) n p)

abbrev pub check_output : Validity → Result Output Refusal
check_output (Ok valid) = Ok (Valid valid)
check_output (Err refusal) = Err refusal

unfoldable pub check_lines : Halfedges → List Float → List Float → ℕ → ℕ → List ℕ
check_lines H P T n p = lines_of (printed (check_output (valid_answer H P T n p))) T

abbrev pub operation_lines : Operation → Halfedges → List Float → List Float → List ℕ → List Float → ℕ → ℕ → List ℕ
operation_lines Straighten H P N X T n p = straighten_lines H P T n p
operation_lines Spreads H P N X T n p = spread_lines H P N X T n p
operation_lines Check H P N X T n p = check_lines H P T n p

-- ---- what the lists hold after an operation, for every input

-- the tangents that straightening leaves, and spreading
abbrev pub straighten_tangents : Halfedges → List Float → List Float → ℕ → ℕ → List Float
straighten_tangents H P T n p = straightened H P T n p

abbrev pub spread_tangents : Halfedges → List Float → List Float → List ℕ → List Float → ℕ → ℕ → List Float
spread_tangents H P N X T n p = spread H P N X T (scratch n) (scratch n) n p

-- the tangents that an operation leaves; the check changes none
abbrev pub operation_tangents : Operation → Halfedges → List Float → List Float → List ℕ → List Float → ℕ → ℕ → List Float
operation_tangents Straighten H P N X T n p = straighten_tangents H P T n p
operation_tangents Spreads H P N X T n p = spread_tangents H P N X T n p
operation_tangents Check H P N X T n p = T

-- a scratch list that spreading is lent the front of: zeros there where it is accepted, else all as lent
abbrev pub spread_scratch : Halfedges → List Float → List Float → List ℕ → List Float → ℕ → ℕ → List Float → List Float
spread_scratch H P N X T n p lent =
    when_accepted (check_lists H P N X T (scratch n) (scratch n) n p) (replicate n zero ++ drop n lent) lent

-- a scratch list: the other operations are lent none
abbrev pub operation_scratch : Operation → Halfedges → List Float → List Float → List ℕ → List Float → ℕ → ℕ → List Float → List Float
operation_scratch Straighten H P N X T n p lent = lent
operation_scratch Spreads H P N X T n p lent = spread_scratch H P N X T n p lent
operation_scratch Check H P N X T n p lent = lent

-- ---- what the functions ask of their lists, and what they answer: only inner contracts cite these

-- the counts of an input, whose records the longest one has room for, and lists with room for it, those of spreading too
pub record SpreadIn (n p positions halfedges tangents normals fixed current desired : ℕ) : Type 0 where
  pub few : records_length p n mesh_kinds ≤ max_input
  pub positions_in : 3 * p ≤ positions
  pub halfedges_in : halfedge_stride * n ≤ halfedges
  pub tangents_in : 4 * n ≤ tangents
  pub normals_in : 3 * p ≤ normals
  pub fixed_in : n ≤ fixed
  pub current_in : n ≤ current
  pub desired_in : n ≤ desired

-- These lines are those of the answer over the tangents T, and it names at most n halfedges.
pub record Shows (lines : List ℕ) (n : ℕ) (answer : Result Output Refusal) (T : List Float) : Type 0 where
  pub shown : lines_of (printed answer) T ≡ lines
  pub halfedges_few : halfedges_in (printed answer) ≤ n
