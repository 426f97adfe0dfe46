-- The invariant: of the candidates that are no longer left, those that stay are taken.
use borrow.Author.Rules.{rules}
use Rattle.placing.proofs.TakenLaws.{taking_start, candidate_small, taking_turn, taking_finish}
use Rattle.placing.proofs.taken_from.Goals as goal

pub loop-a-init : goal.loop-a-init
loop-a-init c = search (taking_start, rules)

pub stays-requires : goal.stays-requires
stays-requires c = search (candidate_small, c.in-Some.ensures.steps)

pub loop-a-preserved : goal.loop-a-preserved
loop-a-preserved c = search (taking_turn, c.in-Some.ensures.steps)

pub returns : goal.returns
returns c = search (taking_finish, c.in-None.ensures.steps)
