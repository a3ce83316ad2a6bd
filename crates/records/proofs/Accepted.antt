-- What is known of an accepted input: its records fill it, the counts are bounded by the longest input, and each list has room for its numbers. Assumes nothing.
use Prim.Native.Nat.{ℕ, ◌+◌, ◌*◌, ◌≤◌}
use native.Mathlib.Omega.{arith}
use mathlib.Core.Path.{◌≡◌, refl, sym, ◌∙◌}
use mathlib.Core.Bool.{Bool, true, false}
use mathlib.Core.List.{List, [], ◌∷◌}
use borrow.Author.Tests.{le-leb, leb-true, eqb-true, eqb-false}
use lib.Dec.{leb, eqb}
use lib.ListN.{length}
use Rattle.std.specs.Prelude.{◌⊎◌, Result, Ok, Err}
use Rattle.std.proofs.Common.{inl, inr}
use Rattle.std.proofs.lemmas.Bool.{and_parts}
use Rattle.mesh.specs.Mesh.{halfedge_stride}
use Rattle.questions.specs.Check.{Checked, asked, answer_of}
use Rattle.questions.specs.declared.Question.TheVariants.{Lengths, Fits, End}
use Rattle.questions.specs.declared.Refusal.{Refusal}
use Rattle.questions.proofs.Accepted.{then_accepted, asked_accepted}
use Rattle.records.specs.Records.{operation_number, is_operation, operation_of_number, check_operation, max_input, header_bytes, counts_at, positions_at, kinds, mesh_kinds, max_points, max_halfedges, body_bytes, records_length, bodies, check_record, check_bodies, check_records, check_input, operation_in, points_in, halfedges_in, input_in, parse_input, Values}
use Rattle.records.specs.Lists.{if_spread, has_room, Lists, lists_have_room, check_reading, read_answer, MeshRoom, SpreadRoom}
use Rattle.records.specs.declared.Operation.{Operation}
use Rattle.records.specs.declared.Operation.TheVariants.{Straighten, Spread, Check}
use Rattle.records.specs.declared.Kind.{Kind}
use Rattle.records.specs.declared.Kind.TheVariants.{Operation as OperationKind, Counts as CountsKind}
use Rattle.records.specs.declared.Input.{Input}
use Rattle.records.proofs.Parse.{answer_ok, answer_err}

-- ---- the records fill the input

whole_from : (s : List ℕ) (p n : ℕ) (left : List Kind) (place : ℕ) → check_bodies s p n left place ≡ Ok tt → length s ≡ place + records_length p n left
unfolding check_bodies
whole_from s p n [] place e = let q = eqb-true place (length s) (asked_accepted End place _ e) in omega arith
whole_from s p n (kind ∷ left) place e =
    let a = then_accepted (check_record s place kind (body_bytes p n kind)) (check_bodies s p n left (place + (header_bytes + body_bytes p n kind))) e in
    omega (arith, whole_from s p n left (place + (header_bytes + body_bytes p n kind)) a.1)

-- what is known of an accepted input
pub record Accepted (s : List ℕ) : Type 0 where
  pub known : is_operation (operation_in s) ≡ true
  pub short : length s ≤ max_input
  pub whole : length s ≡ positions_at + records_length (points_in s) (halfedges_in s) (bodies (operation_of_number (operation_in s)))

accepted_input : (s : List ℕ) → check_input s ≡ Ok tt → Accepted s
unfolding check_input check_records
accepted_input s e =
    let left = check_bodies s (points_in s) (halfedges_in s) (bodies (operation_of_number (operation_in s))) positions_at in
    let a = then_accepted (asked Fits 0 (leb (length s) max_input)) _ e in
    let b = then_accepted _ left a.1 in
    let d = then_accepted _ (check_record s counts_at CountsKind 4) b.0 in
    let f = then_accepted (check_record s 0 OperationKind 1) (check_operation (operation_in s)) d.0 in
    record {
      known = asked_accepted _ 0 _ f.1;
      short = leb-true _ _ (asked_accepted Fits 0 _ a.0);
      whole = whole_from s _ _ _ positions_at b.1;
    }

-- the questions accept it, and the answer is what is read in it
parsed : (s : List ℕ) (i : Input) → parse_input s ≡ Ok i → (check_input s ≡ Ok tt) × (i ≡ input_in s)
unfolding parse_input
parsed s i e = answer_ok (check_input s) (input_in s) i e

mesh_kinds_in : (o : Operation) (p n : ℕ) → records_length p n mesh_kinds ≤ positions_at + records_length p n (bodies o)
mesh_kinds_in Straighten p n = omega arith
mesh_kinds_in Spread p n = omega arith
mesh_kinds_in Check p n = omega arith

module _ (s : List ℕ) (i : Input) (e : parse_input s ≡ Ok i) where
  whole : length s ≡ positions_at + records_length i.counts.points i.counts.halfedges (bodies i.operation)
  whole = rw (parsed s i e).1 (accepted_input s (parsed s i e).0).whole

  pub mesh_bodies : records_length i.counts.points i.counts.halfedges mesh_kinds ≤ length s
  mesh_bodies = rw whole (mesh_kinds_in i.operation i.counts.points i.counts.halfedges)

  pub spread_bodies : i.operation ≡ Spread → records_length i.counts.points i.counts.halfedges kinds ≤ length s
  spread_bodies h = let w = rw h at whole in omega arith

  -- the longest input bounds the counts
  pub counts_bound : records_length i.counts.points i.counts.halfedges mesh_kinds ≤ max_input
  counts_bound = let l = (accepted_input s (parsed s i e).0).short in let m = mesh_bodies in omega arith

-- ---- the values of the answer

same_number : (k : ℕ) → is_operation k ≡ true → operation_number (operation_of_number k) ≡ k
unfolding operation_of_number
same_number k h = by_tests (eqb k 1) (eqb k 2) refl refl
  where
    by_tests : (x y : Bool) → eqb k 1 ≡ x → eqb k 2 ≡ y → operation_number (operation_of_number k) ≡ k
    by_tests true y e f = rw e (sym (eqb-true k 1 e))
    by_tests false true e f = rw (e, f) (sym (eqb-true k 2 f))
    by_tests false false e f =
        let q = and_parts _ _ h in
        let l : 1 ≤ k = leb-true 1 k q.0 in
        let m : k ≤ 3 = leb-true k 3 q.1 in
        let g = eqb-false k 1 e in
        let j = eqb-false k 2 f in
        let z : 3 ≡ k = omega arith in
        rw (e, f) z

values_of : (s : List ℕ) (checked : Checked) → (checked ≡ Ok tt → is_operation (operation_in s) ≡ true) → Values checked s (answer_of checked (input_in s))
values_of s (Ok tt) known = record { number = refl; place = refl; operation = same_number (operation_in s) (known refl); points = refl; halfedges = refl }
values_of s (Err r) known = record { number = refl; place = refl; operation = refl; points = refl; halfedges = refl }

pub read_values : (s : List ℕ) (L : Lists) (r : Result Input Refusal) → r ≡ read_answer s L → Values (check_reading s L) s r
unfolding read_answer check_reading
read_values s L r e =
    rw e (values_of s _ (λ a. (accepted_input s (then_accepted (check_input s) (asked Lengths 0 (lists_have_room (input_in s) L)) a).0).known))

-- ---- the answer of a reading

module _ (s : List ℕ) (L : Lists) where
  pub refused_back : (r : Refusal) → parse_input s ≡ Err r → Err r ≡ read_answer s L
  unfolding parse_input read_answer check_reading
  refused_back r e = rw (answer_err (check_input s) (input_in s) r e)

  module _ (i : Input) (e : parse_input s ≡ Ok i) where
    room_asked : read_answer s L ≡ answer_of (asked Lengths 0 (lists_have_room i L)) i
    unfolding read_answer check_reading
    room_asked = let p = parsed s i e in rw (p.0, p.1)

    pub short_lists : (b : Bool) (r : Refusal) → b ≡ lists_have_room i L → asked Lengths 0 b ≡ Err r → Err r ≡ read_answer s L
    short_lists b r h f = let z = rw h at f in rw (room_asked, z)

-- ---- the room in the lists

module _ (o : Operation) (p n positions halfedges tangents normals fixed : ℕ) where
  pub room : has_room o p n positions halfedges tangents normals fixed ≡ true →
      (3 * p ≤ positions) × (4 * n ≤ halfedges) × (4 * n ≤ tangents) × (if_spread o (3 * p) ≤ normals) × (if_spread o n ≤ fixed)
  unfolding has_room
  room e =
      let a = and_parts _ _ e in
      let b = and_parts _ _ a.0 in
      let c = and_parts _ _ b.0 in
      let d = and_parts _ _ c.0 in
      (leb-true _ _ d.0, leb-true _ _ d.1, leb-true _ _ c.1, leb-true _ _ b.1, leb-true _ _ a.1)

-- an input that is parsed, where the question of the room is answered yes
module _ (s : List ℕ) (L : Lists) (i : Input) (e : parse_input s ≡ Ok i) (b : Bool) (h : b ≡ lists_have_room i L) (f : asked Lengths 0 b ≡ Ok tt) where
  all_room : lists_have_room i L ≡ true
  all_room = sym h ∙ asked_accepted Lengths 0 b f

  fits :
      (3 * i.counts.points ≤ length L.positions) × (4 * i.counts.halfedges ≤ length L.halfedges) × (4 * i.counts.halfedges ≤ length L.tangents)
      × (if_spread i.operation (3 * i.counts.points) ≤ length L.normals) × (if_spread i.operation i.counts.halfedges ≤ length L.fixed)
  fits = room i.operation i.counts.points i.counts.halfedges (length L.positions) (length L.halfedges) (length L.tangents) (length L.normals) (length L.fixed) all_room

  pub mesh_room : MeshRoom i.counts.points i.counts.halfedges (length s) (length L.positions) (length L.halfedges) (length L.tangents)
  mesh_room = record { bodies = mesh_bodies s i e; position_room = fits.0; halfedge_room = fits.1; tangent_room = fits.2 }

  pub spread_room : i.operation ≡ Spread → SpreadRoom i.counts.points i.counts.halfedges (length s) (length L.normals) (length L.fixed)
  spread_room g = record { bodies = spread_bodies s i e g; normal_room = rw g at fits.3; flag_room = rw g at fits.4 }

  pub read : Ok i ≡ read_answer s L
  read = rw (room_asked s L i e, all_room)

-- the other operations have none of the lists of spreading
pub none_due : (o : Operation) (count : ℕ) → (o ≡ Straighten) ⊎ (o ≡ Check) → if_spread o count ≡ 0
none_due o count (inl e) = rw e
none_due o count (inr e) = rw e

-- Lists of these lengths are never too short, so that the answer is the parsed one.
module _ (s : List ℕ) (L : Lists) (positions : 3 * max_points ≤ length L.positions) (halfedges : halfedge_stride * max_halfedges ≤ length L.halfedges) (tangents : 4 * max_halfedges ≤ length L.tangents) (normals : 3 * max_points ≤ length L.normals) (fixed : max_halfedges ≤ length L.fixed) where
  due : (o : Operation) (count most : ℕ) → count ≤ most → if_spread o count ≤ most
  due Straighten count most h = omega arith
  due Spread count most h = h
  due Check count most h = omega arith

  has_all : (i : Input) → parse_input s ≡ Ok i → lists_have_room i L ≡ true
  unfolding has_room
  has_all i e =
      let h = counts_bound s i e in
      rw (
        le-leb (3 * i.counts.points) (length L.positions) (omega arith),
        le-leb (4 * i.counts.halfedges) (length L.halfedges) (omega arith),
        le-leb (4 * i.counts.halfedges) (length L.tangents) (omega arith),
        le-leb (if_spread i.operation (3 * i.counts.points)) (length L.normals) (due i.operation _ _ (omega arith)),
        le-leb (if_spread i.operation i.counts.halfedges) (length L.fixed) (due i.operation _ _ (omega arith)),
      )

  by_answer : (r : Result Input Refusal) → parse_input s ≡ r → read_answer s L ≡ r
  by_answer (Ok i) e = let y = has_all i e in rw (room_asked s L i e, y)
  by_answer (Err r) e = sym (refused_back s L r e)

  pub never_short : read_answer s L ≡ parse_input s
  never_short = by_answer (parse_input s) refl
