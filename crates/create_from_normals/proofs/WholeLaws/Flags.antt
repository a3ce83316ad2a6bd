-- The list of flags: halfedge e has flag 1 exactly if it is inside a quad, whatever the list held and whether the flags are written halfedge by halfedge or edge by edge. Assumes nothing.
use Prim.Native.Nat.{ℕ, ◌<◌}
use native.Mathlib.Nat.{le_refl}
use native.Mathlib.Omega.{arith}
use mathlib.Core.Path.{◌≡◌, refl, sym, ◌∙◌}
use mathlib.Core.Bool.{Bool, true, false, cond}
use mathlib.Core.List.{List}
use lib.ListN.{length, get_or, set, replicate, length-set, length-replicate}
use lib.Seq.{get_or-set_same, get_or-set_other, ext_get_or}
use lib.Dec.{eqb}
use lib.IntN.{ℤ}
use lib.Ieee.{Float}
use Rattle.common.specs.Fold.{fold_to}
use Rattle.mesh.specs.Mesh.{paired_halfedge, Halfedges}
use Rattle.mesh.specs.Sound.{Sound}
use Rattle.smoothing.specs.Edges.{is_inside_quad}
use Rattle.smoothing.proofs.Pairs.{inside_pair}
use Rattle.smoothing.proofs.Places.{Places, each_at, each_same, edges_same}
use Rattle.create_from_normals.specs.Steps.Carried.{is_inside}
use Rattle.create_from_normals.specs.Whole.Flags.{quad_flag, inside_quad_at, inside_quads, inside_quad_step}

flag_places : (n : ℕ) → Places set (λ (Q : List ℕ) (e : ℕ). get_or Q e 0) (λ (Q : List ℕ). length Q ≡ n) n
flag_places n = record {
  whole_put = λ Q e v w. length-set Q e v ∙ w;
  put_same = λ Q e v w h. get_or-set_same Q e v 0 (omega arith);
  put_other = λ Q e v d h. get_or-set_other Q e d v 0 h;
  same_all = λ Q S a b f. ext_get_or 0 Q S (a ∙ sym b) (λ e l. f e (omega arith));
}

is_flag : (b : Bool) → eqb (cond b 1 0) 1 ≡ b
is_flag true = refl
is_flag false = refl

pub inside_is : (H : Halfedges) (R : List ℤ) (O : List Float) (old : Bool) (n e : ℕ) → e < n → is_inside (inside_quads H R O old n) e ≡ is_inside_quad H R O old e
unfolding inside_quads inside_quad_at quad_flag
inside_is H R O old n e h =
    rw (each_at (flag_places n) (quad_flag H R O old) (replicate n 0) (length-replicate n 0) n (le_refl n) e h) (is_flag (is_inside_quad H R O old e))

module _ {H : Halfedges} {n p : ℕ} (s : Sound H n p) (R : List ℤ) (O : List Float) where
  -- both halfedges of an edge have the same flag
  pub flag_pair : (e : ℕ) → e < n → quad_flag H R O false (paired_halfedge H e) ≡ quad_flag H R O false e
  unfolding quad_flag
  flag_pair e h = rw (inside_pair H R n p O s e h)

  steps_same : (old : Bool) (Q : List ℕ) → length Q ≡ n → fold_to (inside_quad_step H R O old) Q n ≡ inside_quads H R O old n
  unfolding inside_quad_step inside_quads inside_quad_at
  steps_same true Q w = each_same (flag_places n) (quad_flag H R O true) Q (replicate n 0) w (length-replicate n 0)
  steps_same false Q w = edges_same (flag_places n) (quad_flag H R O false) s Q (replicate n 0) w (length-replicate n 0)

  -- the loop over e halfedges, all of them
  pub inside_ended : (old : Bool) (Q Q₀ : List ℕ) (e : ℕ) → length Q₀ ≡ n → e ≡ n → Q ≡ fold_to (inside_quad_step H R O old) Q₀ e → Q ≡ inside_quads H R O old n
  inside_ended old Q Q₀ e w q f = f ∙ rw q (steps_same old Q₀ w)
