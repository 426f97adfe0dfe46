-- `checking::one_walk::applied_symbol` meets its contract: a word below the number of rules is a rule, and the offsets say where it starts. Assumes nothing.
use Rattle.checking.proofs.OneWalkLaws.{few_below, at_rule, unread_rule}
use Rattle.checking.proofs.one_walk.applied_symbol.Goals as goal

pub returns-then-r-rules : goal.returns-then-r-rules
returns-then-r-rules c = search unread_rule

pub rule_at-requires : goal.rule_at-requires
rule_at-requires c = search few_below

pub rule_symbol-requires : goal.rule_symbol-requires
rule_symbol-requires c = search at_rule
