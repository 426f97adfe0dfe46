-- `refused_trees::values_changed` meets its contract: what is counted is what changed. Assumes nothing.
use Rattle.refused_trees.proofs.ChangedLaws.{values_counted}
use Rattle.refused_trees.proofs.values_changed.Goals as goal

pub returns : goal.returns
returns c = search (values_counted, c.changed.ensures)
