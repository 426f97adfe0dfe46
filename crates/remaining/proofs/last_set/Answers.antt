-- `remaining::last_set` meets its contract. After a turns `last` is the highest set of the attributes below a, and a word's size at most.
-- Assumes nothing.
use borrow.Author.Rules.{rules}
use Rattle.remaining.proofs.PartLaws.{larger_is, climbing_start, climbing_turn, climbing_finish}
use Rattle.remaining.proofs.last_set.Goals as goal

pub loop-a-init : goal.loop-a-init
loop-a-init c = search climbing_start

pub loop-a-preserved : goal.loop-a-preserved
loop-a-preserved c = search (climbing_turn, larger_is)

pub returns-clause-value : goal.returns-clause-value
returns-clause-value c = search (climbing_finish, rules)
