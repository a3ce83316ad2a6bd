-- `sharpen::sharpen_edges_clean` meets its contract: its entries are the ported listing's, filtered. Assumes nothing.
use Rattle.sharpen.proofs.Edges.{entries_filtered}
use Rattle.sharpen.proofs.sharpen_edges_clean.Goals as goal

pub returns-clause-filtered : goal.returns-clause-filtered
returns-clause-filtered c = entries_filtered _ _ _ _ _ _ _ _ c.sharpen_by.ensures.outcome.listed c.sharpen_by.ensures.outcome.values.entries
