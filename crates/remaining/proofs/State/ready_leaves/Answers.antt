-- `remaining::ready_leaves` meets its contract: only the lowest leave can be ready, and it is where its test holds. Assumes nothing.
use borrow.Author.Rules.{rules}
use Rattle.remaining.proofs.LeaveSetLaws.{no_leaves, last_leaves, next_leaves, leave_few}
use Rattle.remaining.proofs.State.ready_leaves.Goals as goal

pub returns-then-self-eq0 : goal.returns-then-self-eq0
returns-then-self-eq0 c = search no_leaves

pub returns-then-rest-eq0 : goal.returns-then-rest-eq0
returns-then-rest-eq0 c = search last_leaves

pub of_visit-up-requires : goal.of_visit-up-requires
of_visit-up-requires c = (search rules, search leave_few)

pub returns : goal.returns
returns c = search next_leaves
