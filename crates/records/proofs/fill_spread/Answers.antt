-- `records::fill_spread` meets its contract. Assumes nothing.
use Rattle.std.proofs.Common.{rules, ◌∙◌}
use Rattle.little_endian.specs.Numbers.{f64_item}
use Rattle.little_endian.proofs.Filled.{bytes_filled}
use Rattle.records.proofs.fill_spread.Goals as goal

pub returns : goal.returns
unfolding f64_item
returns c =
    let fixed = rw (c.body_at-2.ensures, c.from-halfedges.ensures) at (c.fill-2.ensures ∙ bytes_filled _ _ _ _) in
    (search rules, fixed)
