-- Small numbers as i32. Assumes nothing.
use Prim.Native.Nat.{ℕ, ◌^◌, ◌<◌}
use native.Mathlib.Omega.{arith}
use mathlib.Core.Path.{◌≡◌, sym, ap, ◌∙◌}
use lib.IntN.{ℤ, pos}
use mir.Syntax.{w32}
use mir.Val.{to_z, of_z}
use Rattle.std.proofs.lemmas.Int.{to_z_pos, of_z-to_z}

-- a small number as an i32, and an i32 that is one, written again
pub signed : (n : ℕ) → n < 2 ^ 31 → to_z w32 n ≡ pos n
signed n h = to_z_pos w32 n h

pub signed_again : {x : ℤ} (n : ℕ) → x ≡ pos n → n < 2 ^ 31 → to_z w32 (of_z w32 x) ≡ pos n
signed_again {x} n e h =
    let q : x ≡ to_z w32 n = e ∙ sym (signed n h) in
    ap (λ (z : ℤ). to_z w32 (of_z w32 z)) q ∙ ap (to_z w32) (of_z-to_z w32 n (omega arith)) ∙ signed n h
