-- `refused_trees::rows_changed` meets its contract: what is counted is what changed. Assumes nothing.
use Rattle.refused_trees.proofs.ChangedLaws.{words_counted}
use Rattle.refused_trees.proofs.rows_changed.Goals as goal

pub returns : goal.returns
returns c = search (words_counted, c.changed.ensures)
