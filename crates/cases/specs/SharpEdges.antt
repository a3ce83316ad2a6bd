-- The list of the pillow's sharp edges, by both rules: its two triangles with opposite normals, with the same normal, and one of them a sliver, whose normal is zero.
use Rattle.std.specs.Prelude.{ℕ, ◌≡◌, List, [], ◌∷◌, replicate, Float, Ok}
use Rattle.std.specs.Float.{nan}
use Rattle.std.specs.Float.Ieee.{neg}
use Rattle.float.specs.Ops.{lit, zero, half, one}
use Rattle.common.specs.Pillow.{pillow}
use Rattle.mesh.specs.Mesh.{as_halfedges}
use Rattle.questions.specs.Check.{refused}
use Rattle.questions.specs.declared.Question.TheVariants.{Lengths}
use Rattle.sharpen.specs.Entries.{Entries, entries_in}
use Rattle.sharpen.specs.Sharpen.{sharpen_edges, entries_after}
use Rattle.sharpen.specs.declared.edge.Rule.{Rule}
use Rattle.sharpen.specs.declared.edge.Rule.TheVariants.{Ported, Clean}

abbrev pub opposite : List Float
opposite = zero ∷ zero ∷ one ∷ zero ∷ zero ∷ neg one ∷ []

abbrev pub same : List Float
same = zero ∷ zero ∷ one ∷ zero ∷ zero ∷ one ∷ []

-- the second normal is zero, with one number of the other sign
abbrev pub sliver : List Float
sliver = zero ∷ zero ∷ one ∷ zero ∷ neg zero ∷ zero ∷ []

-- it has one number that is not zero, the least of all
abbrev pub thin : List Float
thin = zero ∷ zero ∷ one ∷ lit 1 ∷ zero ∷ zero ∷ []

-- or one that is not a number
abbrev pub unknown : List Float
unknown = zero ∷ zero ∷ one ∷ zero ∷ nan ∷ zero ∷ []

-- the lists as they are lent
abbrev pub places : List ℕ
places = replicate 6 9

abbrev pub zeros : List Float
zeros = replicate 6 zero

-- the answer of a rule, with so many entries and so many edges in the tally
abbrev pub Answers : Rule → List Float → Float → ℕ → ℕ → Type 0
Answers rule normals limit entries tally = sharpen_edges rule (as_halfedges pillow) normals limit half places zeros 6 3 ≡ Ok (record { entries = entries; tally = tally })

-- what it leaves
abbrev pub Lists : Rule → List Float → Entries → Type 0
Lists rule normals lists = entries_after rule (as_halfedges pillow) normals nan half places zeros 6 3 ≡ lists

-- each edge, its forward halfedge first
abbrev pub each_edge : Entries
each_edge = entries_in (0 ∷ 5 ∷ 1 ∷ 4 ∷ 3 ∷ 2 ∷ []) (replicate 6 half) 6

abbrev pub no_edge : Entries
no_edge = entries_in places zeros 0

-- of one rule
pub record RuleHolds (rule : Rule) : Type 0 where
  pub all_listed : Answers rule opposite nan 6 3
  pub all_lists : Lists rule opposite each_edge
  pub none_listed : Answers rule same nan 0 0
  pub none_lists : Lists rule same no_edge
  -- at 180 degrees the angle is the limit, and not above it
  pub at_limit : Answers rule opposite (lit 0x4066_8000_0000_0000) 0 0
  -- a normal that is not all zero is no sliver's
  pub thin_listed : Answers rule thin nan 6 3
  pub unknown_unlisted : Answers rule unknown nan 0 0

pub record SharpEdgesHold : Type 0 where
  pub ported : RuleHolds Ported
  pub clean : RuleHolds Clean
  -- the ported listing has the edges of a sliver, and neither the clean one nor the tally
  pub sliver_listed : Answers Ported sliver nan 6 0
  pub sliver_lists : Lists Ported sliver each_edge
  pub sliver_omitted : Answers Clean sliver nan 0 0
  pub sliver_omitted_lists : Lists Clean sliver no_edge
  -- but not at a limit above ninety degrees
  pub sliver_below : Answers Ported sliver (lit 0x4056_c000_0000_0000) 0 0
  -- a list without its length is refused, and stays as lent
  pub without_length : sharpen_edges Clean (as_halfedges pillow) opposite nan half [] zeros 6 3 ≡ refused Lengths 0
  pub without_length_lists : entries_after Clean (as_halfedges pillow) opposite nan half [] zeros 6 3 ≡ entries_in [] zeros 0
