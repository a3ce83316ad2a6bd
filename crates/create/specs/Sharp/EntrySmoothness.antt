-- How a scratch list M with a place for each of n halfedges holds the smoothness that the sharp entries E give it: 1, or the least below 1. Only contracts inside a call name it.
use Rattle.std.specs.Prelude.{ℕ, ◌<◌, ◌≡◌, true, cond, length, get_or, set, replicate, Float}
use mathlib.Core.List.{List, foldl}
use Rattle.std.specs.Float.{nan}
use Rattle.std.specs.Float.Ieee.{le}
use Rattle.float.specs.Ops.{one}
use Rattle.float.specs.F64.{min_of}
use Rattle.questions.specs.Questions.{sign_clear}
use Rattle.create.specs.Sharp.Entries.{halfedges_of, smoothness_of}
use Rattle.create.specs.declared.sharp.Smoothness.{Smoothness}

-- what the questions 9 and 10 give: each entry names one of n halfedges, and is a number with a clear sign bit
pub record EntriesIn (E : List Smoothness) (n : ℕ) : Type 0 where
  pub named : (k : ℕ) → k < length E → get_or (halfedges_of E) k 0 < n
  pub clear : (k : ℕ) → k < length E → sign_clear (get_or (smoothness_of E) k nan) ≡ true

-- ---- one entry

abbrev pub smoothness_at : List Float → ℕ → Float
smoothness_at M e = get_or M e nan

-- an entry for halfedge e: at 1 or above it is ignored, else the smaller smoothness holds
unfoldable pub add_entry : List Float → ℕ → Float → List Float
add_entry M e s = cond (le one s) M (set M e (min_of (smoothness_at M e) s))

unfoldable pub add_smoothness : List Float → Smoothness → List Float
add_smoothness M x = add_entry M x.halfedge x.smoothness

-- ---- all entries, where each halfedge has 1 to begin with
unfoldable pub entry_smoothness : List Smoothness → ℕ → List Float
entry_smoothness E n = foldl add_smoothness (replicate n one) E
