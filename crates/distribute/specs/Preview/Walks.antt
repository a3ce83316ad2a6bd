-- The two walks of a preview, as its code holds them: only contracts inside the call name these definitions. H are the halfedges, X the flags, T the tangents, which stay as lent, Y the bytes, n and p the counts of halfedges and points. What a start turns does not depend on the positions P and the point normals N.
use Rattle.std.specs.Prelude.{ℕ, ◌+◌, ◌≡◌, List, length, Float}
use Rattle.linalg.specs.declared.Vec3.{Vec3}
use Rattle.mesh.specs.Mesh.{as_halfedges}
use Rattle.distribute.specs.Spread.Steps.{Steps}
use Rattle.distribute.specs.Spread.Spread.{State}
use Rattle.distribute.specs.Steps.FloatSteps.{Gathered, next_normal, float_steps}
use Rattle.distribute.specs.Walks.Walks.{state_of, first_from}
use Rattle.distribute.specs.declared.walks.Counts.{Counts}
use Rattle.distribute.specs.Preview.Bytes.{turned_bytes}
use Rattle.distribute.specs.declared.preview.walks.Summed.{Summed}
use Rattle.distribute.specs.declared.preview.walks.Seen.{Seen}
use Rattle.distribute.specs.declared.walks.lists.SpreadLists.{SpreadLists}

-- the steps of spreading over the lists, at any positions and point normals
abbrev pub steps_at : SpreadLists → List Float → List Float → Steps
steps_at lists P N = float_steps (as_halfedges lists.h.now) P N lists.fixed.now lists.n

-- ---- the first walk

-- what it sums of what is gathered: the number of angles, `normal`, and the last tangent's direction
abbrev pub summed_of : Gathered → Summed
summed_of g = record { count = length g.current_angle; normal = g.normal; last_tangent = g.last_tangent }

-- a tangent of this direction is gathered
unfoldable pub add_tangent : Vec3 → Summed → Summed
add_tangent tangent s = record { count = s.count + 1; normal = next_normal s.normal tangent s.last_tangent; last_tangent = tangent }

-- r is what spreading's first walk from the start finds, with so many steps looked at before
abbrev pub Sums : SpreadLists → List Float → ℕ → ℕ → Seen → Type 0
Sums lists T start looked r =
    (P N : List Float) → let found = first_from (as_halfedges lists.h.now) P N lists.fixed.now lists.n T start looked in
    (r.looked ≡ found.looked) × (r.summed ≡ summed_of found.gathered)

-- ---- the bytes

-- the bytes Y and the counts k are those of a state of spreading
pub record Shows (S : Steps) (st : State S) (Y : List ℕ) (k : Counts) : Type 0 where
  pub bytes_are : Y ≡ turned_bytes S st
  pub looked_is : k.looked ≡ st.looked
  pub turned_is : k.turned ≡ st.turned

-- A part of spreading, on the tangents as lent, takes what the bytes Y and the counts k show to what Y' and k' show, whatever was turned before.
abbrev pub Previews : (S : Steps) → (State S → State S) → S.Tangents → List ℕ → Counts → List ℕ → Counts → Type 0
Previews S part ts Y k Y' k' = (places : List ℕ) → Y ≡ turned_bytes S (state_of S ts k places) → Shows S (part (state_of S ts k places)) Y' k'
