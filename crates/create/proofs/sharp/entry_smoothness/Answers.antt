-- `create::sharp::entry_smoothness` meets its contract. Assumes nothing.
use Rattle.std.proofs.Common.{rules}
use Prim.Native.Nat.{◌<◌}
use mathlib.Core.Path.{◌≡◌, ap, ◌∙◌}
use native.Mathlib.Omega.{arith}
use lib.ListN.{length, get_or}
use lib.Ieee.{nan}
use Rattle.std.specs.Iterator.Adapters.{zip_first, zip_second}
use Rattle.std.specs.Slice.Iter.{iter_rest}
use Rattle.std.proofs.lemmas.List.{length_push}
use Rattle.std.proofs.lemmas.Slice.Zip.{zip_turn, zip_end}
use Rattle.create.specs.Sharp.Entries.{entries_of}
use Rattle.create.specs.declared.sharp.Smoothness.{Smoothness}
use Rattle.create.proofs.SharpLaws.Flat.{entries_length, entry_at}
use Rattle.create.proofs.SharpLaws.Adding.{no_entry, add_more, all_added, named_at}
use Rattle.create.proofs.sharp.entry_smoothness.Goals as goal
use Rattle.create.proofs.sharp.entry_smoothness.Goals.{In-Some}

-- this turn's pair is the entry at its place
turn : (c : In-Some) → (length c.loop-e.yielded < length (entries_of c.args.entries.now c.args.smoothness.now)) × (get_or (entries_of c.args.entries.now c.args.smoothness.now) (length c.loop-e.yielded) no_entry ≡ record { halfedge = c.in-Some.e.now; smoothness = c.in-Some.s.now })
turn c =
    let I = c.args.entries.now in
    let Q = c.args.smoothness.now in
    let same = c.requires.0 in
    let start = c.into_iter-e-iterator.result in
    let first : iter_rest (zip_first start) ≡ I = search rules in
    let second : iter_rest (zip_second start) ≡ Q = search rules in
    let t = zip_turn I Q c.loop-e.yielded start c.loop-e.e-iterator c.next.new.self c.next.result first second c.loop-e.yielded_by _ c.in-Some.is c.next.ensures.steps in
    (omega (arith, t.0, entries_length I Q same), entry_at I Q no_entry (length c.loop-e.yielded) same t.0 ∙ rw (t.2 0, t.3 nan))

pub add_entry-requires : goal.add_entry-requires
add_entry-requires c =
    let t = turn (goal.at.add_entry-requires c).In-Some in
    omega (arith, c.fill.ensures.len, ap (λ (x : Smoothness). x.halfedge) t.1, named_at c.requires.1 _ t.0)

pub loop-e-preserved : goal.loop-e-preserved
loop-e-preserved c =
    let E = entries_of c.args.entries.now c.args.smoothness.now in
    let l = c.loop-e in
    let t = turn (goal.at.loop-e-preserved c).In-Some in
    rw (length_push l.yielded (c.in-Some.e, c.in-Some.s), add_more c.fill.new.self E _ t.0, t.1, ← l.invariant) c.add_entry.ensures

pub returns : goal.returns
returns c =
    let I = c.args.entries.now in
    let Q = c.args.smoothness.now in
    let E = entries_of I Q in
    let start = c.into_iter-e-iterator.result in
    let first : iter_rest (zip_first start) ≡ I = search rules in
    let second : iter_rest (zip_second start) ≡ Q = search rules in
    let e = zip_end I Q c.loop-e.yielded start c.loop-e.e-iterator c.next.new.self c.next.result first second c.loop-e.yielded_by c.in-None.is c.next.ensures.steps in
    c.loop-e.invariant ∙ all_added _ E _ _ (omega (arith, e, entries_length I Q c.requires.0)) (c.fill.ensures.after (λ y e. e))
