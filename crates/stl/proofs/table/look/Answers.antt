use native.Mathlib.Omega.{arith}
use mathlib.Core.Path.{sym, ◌∙◌}
use Rattle.stl.proofs.TableLaws.Looks.{start_in, going_start, going_tag, going_found, going_empty, step_in, going_on, going_less}
use Rattle.stl.proofs.table.look.Goals as goal

pub offset_bounds-table-at : goal.offset_bounds-table-at
offset_bounds-table-at c = omega (arith, start_in c.requires c.args.key c.root-at.ensures, c.requires.size)

pub bounds-table-at : goal.bounds-table-at
bounds-table-at c = start_in c.requires c.args.key c.root-at.ensures

pub loop-node-init : goal.loop-node-init
loop-node-init c = going_start c.requires c.root-at.ensures c.from-node.ensures

pub has_key-requires : goal.has_key-requires
has_key-requires c = going_tag c.requires c.loop-node.invariant c.loop-node-test.true c.root-at.ensures c.tag-tag.ensures

pub returns-then-has_key : goal.returns-then-has_key
returns-then-has_key c = going_found c.requires c.loop-node.invariant c.loop-node-test.true (sym c.has_key.ensures ∙ c.if-has_key.true)

pub offset_bounds-table-at-in-loop-node : goal.offset_bounds-table-at-in-loop-node
offset_bounds-table-at-in-loop-node c = omega (arith, step_in c.requires c.loop-node.invariant c.loop-node-test.true c.child-at.ensures, c.requires.size)

pub bounds-table-at-in-loop-node : goal.bounds-table-at-in-loop-node
bounds-table-at-in-loop-node c = step_in c.requires c.loop-node.invariant c.loop-node-test.true c.child-at.ensures

pub loop-node-smaller : goal.loop-node-smaller
loop-node-smaller c = going_less c.requires c.loop-node.invariant c.loop-node-test.true c.child-at.ensures c.from-node-in-loop-node.ensures

pub loop-node-preserved : goal.loop-node-preserved
loop-node-preserved c = going_on c.requires c.loop-node.invariant c.loop-node-test.true c.child-at.ensures c.from-node-in-loop-node.ensures (sym c.has_key.ensures ∙ c.if-has_key.false)

pub returns : goal.returns
returns c = going_empty c.requires c.loop-node.invariant c.loop-node-test.false
