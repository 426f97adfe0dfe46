-- `remaining::visits_of` meets its contract: half of the last set, rounded up, and at least 1. Assumes nothing.
use Rattle.remaining.proofs.PartLaws.{visits_by}
use Rattle.remaining.proofs.visits_of.Goals as goal

pub returns-clause-value : goal.returns-clause-value
returns-clause-value c = search visits_by
