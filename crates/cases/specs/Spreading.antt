-- Spreading on the pillow, with numbers for tangents: the last digit is the weight, 9 the mark. And the bytes of a preview of it: 1 where a halfedge was turned.
use Rattle.std.specs.Prelude.{ℕ, suc, ◌+◌, ◌*◌, ◌%◌, ◌≡◌, Bool, true, false, eqb, List, [], ◌∷◌, get_or, set}
use Rattle.distribute.specs.Spread.Steps.{Steps}
use Rattle.distribute.specs.Spread.Spread.{spread, pass}
use Rattle.distribute.specs.Preview.Bytes.{turned_bytes}

-- with these halfedges fixed; the rounds are {0, 3}, {1, 5} and {2, 4}
abbrev pub steps : List Bool → Steps
steps fixed = record {
  Tangents = List ℕ;
  Tangent = ℕ;
  Weight = ℕ;
  Gathered = ℕ;
  Plan = ℕ;
  n = 6;
  step = λ e. get_or (3 ∷ 5 ∷ 4 ∷ 0 ∷ 2 ∷ 1 ∷ []) e 0;
  fixed = λ e. get_or fixed e false;
  read = λ ts e. get_or ts e 0;
  write = set;
  weight = λ v. v % 10;
  is_mark = λ w. eqb w 9;
  begin = λ e v. v;
  gather = λ start e v g. g + v;
  turns_none = λ g. eqb g 0;
  plan = λ start last g. g;
  turn = λ p v. v + 10 * p;
  next = suc;
}

-- halfedge 0 is fixed, 0 and 1 are, and all are
abbrev pub first : Steps
first = steps (true ∷ [])

abbrev pub first_two : Steps
first_two = steps (true ∷ true ∷ [])

abbrev pub each : Steps
each = steps (true ∷ true ∷ true ∷ true ∷ true ∷ true ∷ [])

-- without a mark, and with marks at the halfedges 1 and 3
abbrev pub unmarked : List ℕ
unmarked = 1 ∷ 2 ∷ 3 ∷ 4 ∷ 5 ∷ 6 ∷ []

abbrev pub marked : List ℕ
marked = 1 ∷ 9 ∷ 3 ∷ 9 ∷ 5 ∷ 6 ∷ []

pub record SpreadingHolds : Type 0 where
  -- a sole fixed halfedge is turned with its round
  pub one_fixed : pass first unmarked ≡ record { tangents = 71 ∷ 2 ∷ 3 ∷ 64 ∷ 5 ∷ 6 ∷ []; looked = 2; turned = 2; places = 0 ∷ 3 ∷ [] }
  pub one_fixed_bytes : turned_bytes first (pass first unmarked) ≡ 1 ∷ 0 ∷ 0 ∷ 1 ∷ 0 ∷ 0 ∷ []
  -- with all fixed, nothing is turned
  pub all_fixed : pass each unmarked ≡ record { tangents = 1 ∷ 2 ∷ 3 ∷ 4 ∷ 5 ∷ 6 ∷ []; looked = 6; turned = 0; places = [] }
  -- a marked start is passed over, and a marked halfedge is looked at but not turned
  pub marks : pass first_two marked ≡ record { tangents = 21 ∷ 9 ∷ 3 ∷ 9 ∷ 5 ∷ 6 ∷ []; looked = 2; turned = 1; places = 0 ∷ [] }
  pub marks_bytes : turned_bytes first_two (pass first_two marked) ≡ 1 ∷ 0 ∷ 0 ∷ 0 ∷ 0 ∷ 0 ∷ []
  -- two starts, in either order
  pub one_order : (spread first_two (0 ∷ 1 ∷ []) unmarked).tangents ≡ 71 ∷ 112 ∷ 3 ∷ 64 ∷ 5 ∷ 106 ∷ []
  pub other_order : (spread first_two (1 ∷ 0 ∷ []) unmarked).tangents ≡ 71 ∷ 112 ∷ 3 ∷ 64 ∷ 5 ∷ 106 ∷ []
