-- Laws of flat tangent lists: what `tangent_at` and `weight_at` read after `put_tangent`, and that a list is what they read. Assumes nothing.
use Prim.Native.Nat.{ℕ, zero, suc, ◌+◌, ◌*◌, ◌/◌, ◌%◌, ◌≤◌, ◌<◌}
use native.Mathlib.Omega.{arith}
use mathlib.Core.Path.{◌≡◌, refl, sym, ◌∙◌, ap}
use mathlib.Core.List.{List}
use lib.ListN.{length, get_or, set, length-set}
use lib.Seq.{get_or-set_same, get_or-set_other, lt-length-set, set-get_or, set-set, set_comm, ext_get_or}
use lib.Ieee.{Float, nan}
use Rattle.linalg.specs.declared.Vec4.{Vec4}
use Rattle.smoothing.specs.Lists.{tangent_at, put_tangent, weight_at}

-- the weight is the tangent's
pub weight_of : (T : List Float) (e : ℕ) → (tangent_at T e).w ≡ weight_at T e
unfolding tangent_at weight_at
weight_of T e = refl

pub length_put : (T : List Float) (e : ℕ) (v : Vec4) → length (put_tangent T e v) ≡ length T
unfolding put_tangent
length_put T e v = simp length-set

-- ---- at the same halfedge

pub tangent_put_same : (T : List Float) (e : ℕ) (v : Vec4) → e * 4 + 4 ≤ length T → tangent_at (put_tangent T e v) e ≡ v
unfolding tangent_at put_tangent
tangent_put_same T e v h =
    let a : e * 4 < length T = omega arith in
    let b : e * 4 + 1 < length T = omega arith in
    let c : e * 4 + 2 < length T = omega arith in
    let d : e * 4 + 3 < length T = omega arith in
    let ab : e * 4 ≡ e * 4 + 1 → ⊥ = λ q. omega arith in
    let ac : e * 4 ≡ e * 4 + 2 → ⊥ = λ q. omega arith in
    let ad : e * 4 ≡ e * 4 + 3 → ⊥ = λ q. omega arith in
    let bc : e * 4 + 1 ≡ e * 4 + 2 → ⊥ = λ q. omega arith in
    let bd : e * 4 + 1 ≡ e * 4 + 3 → ⊥ = λ q. omega arith in
    let cd : e * 4 + 2 ≡ e * 4 + 3 → ⊥ = λ q. omega arith in
    simp (get_or-set_same, get_or-set_other, lt-length-set)

pub weight_put_same : (T : List Float) (e : ℕ) (v : Vec4) → e * 4 + 4 ≤ length T → weight_at (put_tangent T e v) e ≡ v.w
weight_put_same T e v h = sym (weight_of (put_tangent T e v) e) ∙ ap (λ (u : Vec4). u.w) (tangent_put_same T e v h)

-- a tangent that is there already changes nothing
pub put_there : (T : List Float) (e : ℕ) → put_tangent T e (tangent_at T e) ≡ T
unfolding tangent_at put_tangent
put_there T e = simp set-get_or

-- ---- twice at the same halfedge

-- stores in ascending order
set_ascending : (l : List Float) (i j : ℕ) (a b : Float) → j < i → set (set l i a) j b ≡ set (set l j b) i a
set_ascending l i j a b h = set_comm l i j a b (λ q. omega arith)

pub put_put : (T : List Float) (e : ℕ) (u v : Vec4) → put_tangent (put_tangent T e u) e v ≡ put_tangent T e v
unfolding put_tangent
put_put T e u v =
    let ab : e * 4 < e * 4 + 1 = omega arith in
    let ac : e * 4 < e * 4 + 2 = omega arith in
    let ad : e * 4 < e * 4 + 3 = omega arith in
    let bc : e * 4 + 1 < e * 4 + 2 = omega arith in
    let bd : e * 4 + 1 < e * 4 + 3 = omega arith in
    let cd : e * 4 + 2 < e * 4 + 3 = omega arith in
    simp (set_ascending, set-set)

-- ---- at another one

-- a number outside of the four
outside : (T : List Float) (e : ℕ) (v : Vec4) (i : ℕ) → (i / 4 ≡ e → ⊥) → get_or (put_tangent T e v) i nan ≡ get_or T i nan
unfolding put_tangent
outside T e v i h =
    let a : i ≡ e * 4 → ⊥ = λ q. h (omega arith) in
    let b : i ≡ e * 4 + 1 → ⊥ = λ q. h (omega arith) in
    let c : i ≡ e * 4 + 2 → ⊥ = λ q. h (omega arith) in
    let d : i ≡ e * 4 + 3 → ⊥ = λ q. h (omega arith) in
    simp (get_or-set_other, a, b, c, d)

pub tangent_put_other : (T : List Float) (e : ℕ) (v : Vec4) (d : ℕ) → (d ≡ e → ⊥) → tangent_at (put_tangent T e v) d ≡ tangent_at T d
unfolding tangent_at
tangent_put_other T e v d h =
    rw (
      outside T e v (d * 4) (λ q. h (omega arith)),
      outside T e v (d * 4 + 1) (λ q. h (omega arith)),
      outside T e v (d * 4 + 2) (λ q. h (omega arith)),
      outside T e v (d * 4 + 3) (λ q. h (omega arith)),
    )

pub weight_put_other : (T : List Float) (e : ℕ) (v : Vec4) (d : ℕ) → (d ≡ e → ⊥) → weight_at (put_tangent T e v) d ≡ weight_at T d
unfolding weight_at
weight_put_other T e v d h = outside T e v (d * 4 + 3) (λ q. h (omega arith))

-- ---- two lists with the same tangents are the same

-- number r of a tangent
part : Vec4 → ℕ → Float
part v zero = v.x
part v (suc zero) = v.y
part v (suc (suc zero)) = v.z
part v (suc (suc (suc r))) = v.w

part_of : (T : List Float) (e r : ℕ) → r < 4 → part (tangent_at T e) r ≡ get_or T (e * 4 + r) nan
unfolding tangent_at part
part_of T e zero h = ap (λ (i : ℕ). get_or T i nan) (let q : e * 4 ≡ e * 4 + 0 = omega arith in q)
part_of T e (suc zero) h = refl
part_of T e (suc (suc zero)) h = refl
part_of T e (suc (suc (suc zero))) h = refl
part_of T e (suc (suc (suc (suc r)))) h = absurd (omega arith)

number_of : (T : List Float) (i : ℕ) → part (tangent_at T (i / 4)) (i % 4) ≡ get_or T i nan
number_of T i = part_of T (i / 4) (i % 4) (omega arith) ∙ ap (λ (j : ℕ). get_or T j nan) (let q : i / 4 * 4 + i % 4 ≡ i = omega arith in q)

pub same_tangents : (n : ℕ) (S T : List Float) → length S ≡ n * 4 → length T ≡ n * 4 → ((e : ℕ) → e < n → tangent_at S e ≡ tangent_at T e) → S ≡ T
same_tangents n S T a b f =
    ext_get_or nan S T (a ∙ sym b) (λ i l. sym (number_of S i) ∙ ap (λ (v : Vec4). part v (i % 4)) (f (i / 4) (omega arith)) ∙ number_of T i)
