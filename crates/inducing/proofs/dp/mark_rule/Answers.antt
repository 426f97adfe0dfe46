-- The invariant: f is the word at which function k starts, and the arcs of the functions before it are marked.
use borrow.Author.Rules.{rules}
use Rattle.inducing.proofs.FunctionLaws.{rule_start, rule_turn, rule_finish, next_small}
use Rattle.inducing.proofs.dp.mark_rule.Goals as goal

pub loop-k-init : goal.loop-k-init
loop-k-init c = (search rules, search rule_start)

pub mark_function-f-requires : goal.mark_function-f-requires
mark_function-f-requires c = search (next_small, rules)

pub loop-k-preserved : goal.loop-k-preserved
loop-k-preserved c = (search rules, search rule_turn)

pub returns : goal.returns
returns c = search rule_finish
