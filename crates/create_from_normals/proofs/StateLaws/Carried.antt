-- Two numbers, and two normals, have the same bits exactly where they are equal; and with the normals of the lists the state after a halfedge is the Rust's. Assumes nothing.
use Prim.Native.Nat.{ℕ, ◌+◌, ◌*◌, ◌/◌, ◌≤◌}
use mathlib.Core.Path.{◌≡◌, refl, sym, ap, ◌∙◌, subst}
use mathlib.Core.Bool.{true}
use mathlib.Core.List.{List}
use lib.Dec.{T}
use lib.Ieee.{Float, binary64, fits, of_bits}
use lib.Ieee.Bits.{of_bits-to_bits}
use borrow.Author.Tests.{eq-eqb, eqb-true}
use Rattle.float.specs.F64.{bits_of}
use Rattle.linalg.specs.declared.Vec3.{Vec3}
use Rattle.std.proofs.lemmas.Bool.{and_parts}
use Rattle.mesh.specs.Mesh.{Halfedges}
use Rattle.cycles.specs.Cycles.{next_around}
use Rattle.create_from_normals.specs.declared.state.CycleState.{CycleState}
use Rattle.create_from_normals.specs.State.State.{next_state}
use Rattle.create_from_normals.specs.State.Carried.{halfedge_normal, same_bits, same_normal, next_state_of}
use Rattle.create_from_normals.specs.State.Units.{UnitsIn}
use Rattle.create_from_normals.proofs.StateLaws.Units.{flat_is}

-- ---- the same bit for bit

-- a 64-bit number, as every f64 of the code is
abbrev pub Fits : Float → Type 0
Fits a = fits binary64 a ≡ true

read_back : (a : Float) → Fits a → of_bits binary64 (bits_of a) ≡ a
read_back a f = of_bits-to_bits binary64 a (subst T (sym f) tt)

same_bits_lem : (a b : Float) → Fits a → Fits b → same_bits a b ≡ true → a ≡ b
unfolding same_bits
same_bits_lem a b f g h = sym (read_back a f) ∙ ap (of_bits binary64) (eqb-true (bits_of a) (bits_of b) h) ∙ read_back b g

pub bits_same : (a b : Float) → a ≡ b → same_bits a b ≡ true
unfolding same_bits
bits_same a b q = eq-eqb (bits_of a) (bits_of b) (ap bits_of q)

pub record FitsAll (v : Vec3) : Type 0 where
  pub x : Fits v.x
  pub y : Fits v.y
  pub z : Fits v.z

abbrev vec : Float → Float → Float → Vec3
vec x y z = record { x = x; y = y; z = z }

pub same_normal_lem : (a b : Vec3) → FitsAll a → FitsAll b → same_normal a b ≡ true → a ≡ b
unfolding same_normal
same_normal_lem a b f g h =
    let k = and_parts _ (same_bits a.z b.z) h in
    let j = and_parts (same_bits a.x b.x) (same_bits a.y b.y) k.0 in
    let p = same_bits_lem a.x b.x f.x g.x j.0 in
    let q = same_bits_lem a.y b.y f.y g.y j.1 in
    let r = same_bits_lem a.z b.z f.z g.z k.1 in
    λ i. vec (p i) (q i) (r i)

pub normal_same : (a b : Vec3) → a ≡ b → same_normal a b ≡ true
unfolding same_normal
normal_same a b q = rw (bits_same a.x b.x (ap (λ (v : Vec3). v.x) q), bits_same a.y b.y (ap (λ (v : Vec3). v.y) q), bits_same a.z b.z (ap (λ (v : Vec3). v.z) q)) refl

-- ---- the state after a halfedge

-- U holds the unit vectors of the triangles' normals A
pub next_state_by : {A U : List Float} {n : ℕ} → UnitsIn A U n → (H : Halfedges) (normal : ℕ → Vec3) (s : CycleState) (e : ℕ) → e / 3 * 3 + 3 ≤ n → next_around H e / 3 * 3 + 3 ≤ n
    → next_state H A normal s e ≡ next_state_of s (halfedge_normal U normal e) (halfedge_normal U normal (next_around H e)) e
unfolding next_state next_state_of halfedge_normal
next_state_by w H normal s e h k = rw (flat_is w normal e h, flat_is w normal (next_around H e) k) refl
