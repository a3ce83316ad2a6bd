-- What spreading is defined over: the mesh, the flags, and the functions that read a tangent and work on it. `float_steps` (../Steps/FloatSteps.antt) fills in those of the Rust.
use Rattle.std.specs.Prelude.{◌≡◌, Bool, ◌≢◌, ℕ, ◌<◌}
use Rattle.cycles.specs.Orbits.{Permutes}

pub record Steps : Type 1 where
  pub Tangents : Type 0  -- the lent list of tangents
  pub Tangent : Type 0  -- one tangent
  pub Weight : Type 0  -- its weight
  pub Gathered : Type 0  -- what the first walk gathers: the two lists of angles, the sum `normal`, the last edge and tangent
  pub Plan : Type 0  -- what the second walk goes by: the angles, the scale, the offset, the axis and the index
  pub n : ℕ  -- how many halfedges there are
  pub step : ℕ → ℕ  -- the next halfedge around the start point
  pub fixed : ℕ → Bool  -- the flag is 1
  pub read : Tangents → ℕ → Tangent
  pub write : Tangents → ℕ → Tangent → Tangents
  pub weight : Tangent → Weight
  pub is_mark : Weight → Bool  -- `is_marked_inside_quad`
  pub begin : ℕ → Tangent → Gathered  -- at a start, with its tangent
  pub gather : ℕ → ℕ → Tangent → Gathered → Gathered  -- the first walk from a start comes to a halfedge with this tangent
  pub turns_none : Gathered → Bool  -- one angle, or a `normal` of length 0
  pub plan : ℕ → ℕ → Gathered → Plan  -- from the start, the halfedge where the first walk ended, and what it gathered
  pub turn : Plan → Tangent → Tangent  -- the tangent rotated, its weight kept
  pub next : Plan → Plan  -- at the next angle

-- what holds of them on an accepted mesh
pub record Lawful (S : Steps) : Type 1 where
  pub permutes : Permutes S.step S.n
  pub turn_weight : (p : S.Plan) (v : S.Tangent) → S.weight (S.turn p v) ≡ S.weight v
  pub Whole : S.Tangents → Type 0  -- the list has its length
  pub write_whole : (ts : S.Tangents) (e : ℕ) (v : S.Tangent) → Whole ts → Whole (S.write ts e v)
  pub read_same : (ts : S.Tangents) (e : ℕ) (v : S.Tangent) → Whole ts → e < S.n → S.read (S.write ts e v) e ≡ v
  pub read_other : (ts : S.Tangents) (e : ℕ) (v : S.Tangent) (d : ℕ) → d ≢ e → S.read (S.write ts e v) d ≡ S.read ts d
  pub same_tangents : (ts us : S.Tangents) → Whole ts → Whole us → ((e : ℕ) → e < S.n → S.read ts e ≡ S.read us e) → ts ≡ us
