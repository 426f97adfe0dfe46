-- `remaining::actions_left` meets its contract: a set of numbers below 64 has at most 64 members, so the sum fits. Assumes nothing.
use Rattle.remaining.proofs.LeftLaws.{two_fit, three_few, three_fit, counted}
use Rattle.remaining.proofs.State.actions_left.Goals as goal

pub overflow_add-result : goal.overflow_add-result
overflow_add-result c = search two_fit

pub overflow_add-result-2 : goal.overflow_add-result-2
overflow_add-result-2 c = search three_fit

pub returns-clause-value : goal.returns-clause-value
returns-clause-value c = search counted

pub returns-clause-upper_bound : goal.returns-clause-upper_bound
returns-clause-upper_bound c = search three_few
