-- Each answer is the lowest of the stale rules from a number on, or where there is none the lowest of all. So it is stale. Assumes nothing.
use Rattle.inducing.proofs.StaleLaws.{chosen_ahead, upward_ahead, upward_again}
use Rattle.inducing.proofs.ids.choose.Goals as goal

pub returns-then-ahead-eq0-clause-upward : goal.returns-then-ahead-eq0-clause-upward
returns-then-ahead-eq0-clause-upward c = search upward_again

pub returns-clause-chosen : goal.returns-clause-chosen
returns-clause-chosen c = search chosen_ahead

pub returns-clause-upward : goal.returns-clause-upward
returns-clause-upward c = search upward_ahead
