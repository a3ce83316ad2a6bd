-- `program::respond` meets its contract: an accepted input is operated on, and a refusal is the answer. Assumes nothing.
use Rattle.std.proofs.Common.{rules, ℕ, ◌≡◌, List, length, Result, Err, arith}
use Rattle.std.proofs.lemmas.Grind.{common_steps}
use Rattle.questions.specs.declared.Refusal.{Refusal}
use Rattle.records.specs.Lists.{Lists, read_answer, read_lists}
use Rattle.records.specs.declared.Input.{Input}
use Rattle.program.specs.Program.{Room}
use Rattle.program.proofs.Inputs.{Reading, read_left, refusal_shows, tangents_as_lent, scratch_as_lent, bound, operation_shows, tangents_left, scratch_left}
use Rattle.program.proofs.respond.Goals as goal

-- what is known after the reading
reading : {s : List ℕ} {L L' : Lists} {r : Result Input Refusal} {current desired : ℕ} → r ≡ read_answer s L → L' ≡ read_lists r s L →
    Room (length L.positions) (length L.halfedges) (length L.tangents) (length L.normals) (length L.fixed) current desired → Reading s L L' r current desired
reading answer lists room = record { answer = answer; lists = lists; room = room }

pub returns-in_err-read : goal.returns-in_err-read
returns-in_err-read c =
    let r = c.read_input in
    let refusal = c.in_err-read.field-0.0 in
    let w = reading r.ensures.answer r.ensures.lists c.requires in
    let l = read_left w _ c.in_err-read.was in
    let e : c.from_residual.result ≡ Err refusal = search rules in
    rw e
    (record {
      output = refusal_shows w refusal c.in_err-read.was _;
      positions = l.0;
      halfedges = l.1;
      tangents = tangents_as_lent w refusal c.in_err-read.was;
      normals = l.2;
      fixed = l.3;
      current = scratch_as_lent w refusal c.in_err-read.was _;
      desired = scratch_as_lent w refusal c.in_err-read.was _;
    })

pub perform-requires : goal.perform-requires
perform-requires c =
    let r = c.read_input in
    let few = bound (reading r.ensures.answer r.ensures.lists c.requires) _ _ _ c.in_ok-read.was in
    grind (arith, common_steps)

pub returns : goal.returns
returns c =
    let r = c.read_input in
    let i = c.in_ok-read in
    let d = rw (c.from.ensures, c.from-2.ensures) at c.perform.ensures in
    let w = reading r.ensures.answer r.ensures.lists c.requires in
    let l = read_left w _ i.was in
    record {
      output = operation_shows w _ _ _ i.was _ _ d.lines;
      positions = l.0;
      halfedges = l.1;
      tangents = tangents_left w _ _ _ i.was _ d.tangents;
      normals = l.2;
      fixed = l.3;
      current = scratch_left w _ _ _ i.was _ _ d.current;
      desired = scratch_left w _ _ _ i.was _ _ d.desired;
    }
