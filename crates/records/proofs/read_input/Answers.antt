-- `records::read_input` meets its contract: a refusal goes back with the lists as lent, and an accepted input fills them. Assumes nothing.
use Rattle.std.proofs.Common.{rules, ℕ, ◌≡◌, ◌*◌, sym, ◌∙◌, Err}
use Rattle.little_endian.specs.Numbers.{f64_item, byte_item}
use Rattle.little_endian.proofs.Filled.{filled_none}
use Rattle.records.specs.Records.{body_at}
use Rattle.records.specs.Lists.{lists_of, read_lists}
use Rattle.records.specs.declared.Kind.TheVariants.{Normals, Fixed}
use Rattle.records.proofs.Accepted.{refused_back, short_lists, read, read_values, mesh_room, spread_room, none_due}
use Rattle.records.proofs.read_input.Goals as goal

pub returns-in_err-parsed : goal.returns-in_err-parsed
unfolding read_lists
returns-in_err-parsed c =
    let a = c.args in
    let L = lists_of a.h.now a.pos.now a.normals.now a.fixed.now a.t.now in
    let e : c.from_residual.result ≡ Err c.in_err-parsed.field-0.0 = search rules in
    let answer = e ∙ refused_back a.input.now L _ (sym c.parse_input.ensures ∙ c.in_err-parsed.was) in
    record { answer = answer; lists = rw e; values = read_values a.input.now L _ answer }

pub returns-in_err-ask_at : goal.returns-in_err-ask_at
unfolding read_lists
returns-in_err-ask_at c =
    let a = c.args in
    let L = lists_of a.h.now a.pos.now a.normals.now a.fixed.now a.t.now in
    let e : c.from_residual-in_err-ask_at.result ≡ Err c.in_err-ask_at.field-0.0 = search rules in
    let short = short_lists a.input.now L _ (sym c.parse_input.ensures ∙ c.in_ok-parsed.was) _ _ c.has_room-room.ensures (sym c.ask_at.ensures ∙ c.in_err-ask_at.was) in
    record { answer = e ∙ short; lists = rw e; values = read_values a.input.now L _ (e ∙ short) }

pub fill_mesh-requires : goal.fill_mesh-requires
fill_mesh-requires c =
    let a = c.args in
    mesh_room a.input.now (lists_of a.h.now a.pos.now a.normals.now a.fixed.now a.t.now) _ (sym c.parse_input.ensures ∙ c.in_ok-parsed.was) c.has_room-room.result c.has_room-room.ensures (sym c.ask_at.ensures ∙ c.in_ok-ask_at.was)

pub fill_spread-requires : goal.fill_spread-requires
fill_spread-requires c =
    let a = c.args in
    spread_room a.input.now (lists_of a.h.now a.pos.now a.normals.now a.fixed.now a.t.now) _ (sym c.parse_input.ensures ∙ c.in_ok-parsed.was) c.has_room-room.result c.has_room-room.ensures (sym c.ask_at.ensures ∙ c.in_ok-ask_at.was) c.in-Spread.is

pub returns-in-Spread : goal.returns-in-Spread
unfolding read_lists
returns-in-Spread c =
    let a = c.args in
    let answer = read a.input.now (lists_of a.h.now a.pos.now a.normals.now a.fixed.now a.t.now) _ (sym c.parse_input.ensures ∙ c.in_ok-parsed.was) c.has_room-room.result c.has_room-room.ensures (sym c.ask_at.ensures ∙ c.in_ok-ask_at.was) in
    let mesh = c.fill_mesh.ensures in
    let spread = c.fill_spread.ensures in
    record { answer = answer; lists = rw (c.in-Spread.is, mesh.0, mesh.1, mesh.2, spread.0, spread.1); values = read_values _ _ _ answer }

pub returns-in-Straighten : goal.returns-in-Straighten
unfolding read_lists
returns-in-Straighten c =
    let a = c.args in
    let i = c.in_ok-parsed.parsed in
    let n = i.counts in
    let answer = read a.input.now (lists_of a.h.now a.pos.now a.normals.now a.fixed.now a.t.now) _ (sym c.parse_input.ensures ∙ c.in_ok-parsed.was) c.has_room-room.result c.has_room-room.ensures (sym c.ask_at.ensures ∙ c.in_ok-ask_at.was) in
    let mesh = c.fill_mesh.ensures in
    let none = λ (count : ℕ). none_due i.operation count c.in-Straighten.is in
    record {
      answer = answer;
      lists =
          rw (
            mesh.0,
            mesh.1,
            mesh.2,
            none (3 * n.points),
            none n.halfedges,
            ← filled_none (f64_item a.input.now (body_at n.points n.halfedges Normals)) a.normals.now,
            ← filled_none (byte_item a.input.now (body_at n.points n.halfedges Fixed)) a.fixed.now,
          );
      values = read_values _ _ _ answer;
    }
