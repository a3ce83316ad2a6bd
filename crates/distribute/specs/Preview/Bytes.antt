-- The bytes of a preview: which halfedges were turned on the way to a state of spreading.
use Rattle.std.specs.Prelude.{ℕ, cond, List, map, eqb}
use Rattle.std.specs.List.{range_with_len}
use Rattle.cycles.specs.Count.{count}
use Rattle.distribute.specs.Spread.Steps.{Steps}
use Rattle.distribute.specs.Spread.Spread.{State}

-- 1 if the halfedge e was turned, else 0
abbrev pub turned_byte : (S : Steps) → State S → ℕ → ℕ
turned_byte S st e = cond (eqb (count e st.places) 0) 0 1

-- one byte for each halfedge
abbrev pub turned_bytes : (S : Steps) → State S → List ℕ
turned_bytes S st = map (turned_byte S st) (range_with_len 0 S.n)
