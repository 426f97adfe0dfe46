-- `refused_trees::words_changed` meets its contract: what is counted is what changed. Assumes nothing.
use Rattle.refused_trees.proofs.ChangedLaws.{words_counted}
use Rattle.refused_trees.proofs.words_changed.Goals as goal

pub returns : goal.returns
returns c = search (words_counted, c.changed.ensures)
