-- The invariant: for each symbol the set has those of the first r rules that name it, and no rule from r on.
use borrow.Author.Rules.{rules}
use Rattle.access.proofs.Accessors.{rule_of}
use Rattle.inducing.proofs.NamingLaws.{naming_start, naming_turn, naming_finish}
use Rattle.inducing.proofs.ids.name_rules.Goals as goal

pub loop-r-init : goal.loop-r-init
loop-r-init c = (search rules, search naming_start)

pub name_rule-requires : goal.name_rule-requires
name_rule-requires c = search (rule_of, rules)

pub loop-r-preserved : goal.loop-r-preserved
loop-r-preserved c = (search rules, search naming_turn)

pub returns : goal.returns
returns c = search naming_finish
