-- `remaining::start` meets its contract: each of the five sets is what its call answers. Assumes nothing.
use borrow.Author.Rules.{rules}
use Rattle.remaining.proofs.LeftLaws.{started_by, left_low}
use Rattle.remaining.proofs.State.start.Goals as goal

pub visits_in-requires : goal.visits_in-requires
visits_in-requires c = search left_low

pub of_visit-requires : goal.of_visit-requires
of_visit-requires c = (search left_low, search rules)

pub returns : goal.returns
returns c = search started_by
