-- Loops round a cycle: what their bodies keep, the loops keep. Assumes nothing.
use Prim.Native.Nat.{ℕ, zero, suc, ◌<◌}
use mathlib.Core.Path.{◌≡◌, refl, ap, ◌∙◌}
use mathlib.Core.Bool.{Bool, true, false, cond}
use mathlib.Core.List.{List, [], foldl}
use lib.Dec.{eqb}
use lib.Ieee.{Float}
use Rattle.linalg.specs.declared.Vec3.{Vec3}
use Rattle.mesh.specs.Mesh.{start_vert, Halfedges}
use Rattle.mesh.specs.Sound.{Sound}
use Rattle.cycles.specs.Walk.{cycle_from}
use Rattle.cycles.specs.Cycles.{next_around}
use Rattle.cycles.proofs.Around.{next_below, next_start}
use Rattle.create_shared.specs.Makings.{Tangents}
use Rattle.create_from_normals.specs.State.State.{start_state}
use Rattle.create_from_normals.specs.Steps.Steps.{StateNames, Walk, walk_of, normal_step}
use Rattle.create_from_normals.proofs.StepsLaws.Lent.{state_start, state_step}
use Rattle.create_from_normals.specs.Walks.Walks.{normal_walk}

-- two loops round a cycle whose places have Q: what their bodies keep between the two, the loops keep
cycle_relates : {S T : Type 0} (f : S → ℕ → S) (g : T → ℕ → T) (R : S → T → Type 0) (Q : ℕ → Type 0) {step : ℕ → ℕ} → ((x : ℕ) → Q x → Q (step x)) → ((a : S) (b : T) (x : ℕ) → Q x → R a b → R (f a x) (g b x))
    → (k s c : ℕ) (a : S) (b : T) → Q c → R a b → R (foldl f a (cycle_from step k s c)) (foldl g b (cycle_from step k s c))
unfolding cycle_from
cycle_relates f g R Q on keeps zero s c a b h r = r
cycle_relates f g R Q {step} on keeps (suc k) s c a b h r =
    go (eqb (step c) s) (cycle_from step k s (step c)) (cycle_relates f g R Q on keeps k s (step c) (f a c) (g b c) (on c h) (keeps a b c h r))
  where
    go : (t : Bool) (rest : List ℕ) → R (foldl f (f a c) rest) (foldl g (g b c) rest) → R (foldl f (f a c) (cond t [] rest)) (foldl g (g b c) (cond t [] rest))
    go true rest d = keeps a b c h r
    go false rest d = d

-- bodies that agree
pub cycle_same : {S : Type 0} (f g : S → ℕ → S) (Q : ℕ → Type 0) {step : ℕ → ℕ} → ((x : ℕ) → Q x → Q (step x)) → ((a : S) (x : ℕ) → Q x → f a x ≡ g a x)
    → (k s c : ℕ) (a : S) → Q c → foldl f a (cycle_from step k s c) ≡ foldl g a (cycle_from step k s c)
cycle_same {S} f g Q on same k s c a h =
    cycle_relates f g (λ (a b : S). a ≡ b) Q on (λ a b x l e. ap (λ (u : S). f u x) e ∙ same b x l) k s c a a h refl

module _ {H : Halfedges} {n p : ℕ} (S : Sound H n p) (P A : List Float) (normal : ℕ → Vec3) (inside : ℕ → Bool) where
  -- the halfedges that the state of the first loop names are such as it comes by
  walk_names : (Q : ℕ → Type 0) → ((x : ℕ) → Q x → Q (next_around H x)) → (m : Tangents) (e : ℕ) → Q e → StateNames Q (normal_walk H P A normal inside n m e).state
  unfolding normal_walk
  walk_names Q on m e h =
      let start = walk_of m.tangents m.fixed start_state in
      cycle_relates (normal_step H P A normal inside) (normal_step H P A normal inside) (λ (a b : Walk). StateNames Q a.state) Q on (λ a b x l i. state_step Q l H P A normal inside a i) n e e start start h (state_start Q)

  -- halfedges
  pub walk_in : (m : Tangents) (e : ℕ) → e < n → StateNames (λ a. a < n) (normal_walk H P A normal inside n m e).state
  walk_in = walk_names (λ a. a < n) (next_below S)

  -- those of its point
  pub walk_at : (m : Tangents) (e : ℕ) → e < n → StateNames (λ a. (a < n) × (start_vert H a ≡ start_vert H e)) (normal_walk H P A normal inside n m e).state
  walk_at m e h =
      walk_names (λ a. (a < n) × (start_vert H a ≡ start_vert H e)) (λ x l. (next_below S x l.0, next_start S x l.0 ∙ l.1)) m e (h, refl)
