use mathlib.Core.Path.{sym, ap, ◌∙◌}
use Rattle.stl.specs.File.Points.{same_corner}
use Rattle.stl.specs.Table.Keys.{same_key}
use Rattle.stl.specs.declared.table.Key.{Key}
use Rattle.stl.proofs.TableLaws.SameKey.{key_other}
use Rattle.stl.proofs.table.has_key.Goals as goal

pub returns-then-tags-k : goal.returns-then-tags-k
returns-then-tags-k c = sym (key_other _ c.args.key (λ e. c.if-tags-k.true (c.requires.2 ∙ e ∙ sym c.requires.3)))

pub returns : goal.returns
unfolding same_key same_corner
returns c = c.eq.ensures ∙ ap (λ (k : Key). same_key k c.args.key) c.key_at.ensures
