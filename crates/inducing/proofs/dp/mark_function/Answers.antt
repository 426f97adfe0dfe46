-- The invariant: the arcs from the first j arguments are marked.
use borrow.Author.Rules.{rules}
use Rattle.inducing.proofs.FunctionLaws.{argument_small_law, argument_there, target_small_law, next_is, arguments_start, arguments_turn, arguments_finish}
use Rattle.inducing.proofs.dp.mark_function.Goals as goal

pub loop-j-init : goal.loop-j-init
loop-j-init c = (search rules, search arguments_start)

pub known-a-requires : goal.known-a-requires
known-a-requires c = search argument_there

pub mark-requires : goal.mark-requires
mark-requires c = (search argument_small_law, search target_small_law)

pub loop-j-preserved : goal.loop-j-preserved
loop-j-preserved c = (search rules, search (arguments_turn, c.mark.ensures))

pub returns-clause-value : goal.returns-clause-value
returns-clause-value c = (search next_is, search rules)

pub returns-clause-marked : goal.returns-clause-marked
returns-clause-marked c = search arguments_finish
