-- `sequencing::compute_first` meets its contract: what is ready stays so, and a compute that becomes ready was blocked by this one alone, so this one
-- leads to it. Assumes nothing.
use Rattle.sequencing.proofs.BlockedLaws.{first_action, done_action, ready_after}
use Rattle.sequencing.proofs.compute_first.Goals as goal

pub returns-clause-first : goal.returns-clause-first
returns-clause-first c = search first_action

pub returns-clause-done : goal.returns-clause-done
returns-clause-done c = search done_action

pub returns-clause-unblocked_2 : goal.returns-clause-unblocked_2
returns-clause-unblocked_2 c = search ready_after
