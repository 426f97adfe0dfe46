-- The invariant: the rule is in the sets of the symbols at its first i positions, and nothing else was put in.
use borrow.Author.Rules.{rules}
use Rattle.access.proofs.TableLaws.{rule_in}
use Rattle.access.proofs.Accessors.{rule_small, rule_near}
use Rattle.inducing.proofs.NamingLaws.{named_start, named_turn, named_finish}
use Rattle.inducing.proofs.RuleRowLaws.{rule_ruled}
use Rattle.inducing.proofs.SpreadLaws.{symbol_small, position_inside}
use Rattle.inducing.proofs.ids.name_rule.Goals as goal

pub rule_at-requires : goal.rule_at-requires
rule_at-requires c = search (rule_small, rule_in c.args.table.now _ c.requires.inside)

pub invariant_of-rule : goal.invariant_of-rule
invariant_of-rule c = record { near = search (rule_near, rule_in c.args.table.now _ c.requires.inside) }

pub loop-i-init : goal.loop-i-init
loop-i-init c = (search rules, search named_start)

pub symbol-x-requires : goal.symbol-x-requires
symbol-x-requires c = search (rule_near, rules, rule_in c.args.table.now _ c.requires.inside)

pub bounds-naming-x : goal.bounds-naming-x
bounds-naming-x c = search (symbol_small, rule_ruled, position_inside, rule_in c.args.table.now _ c.requires.inside)

pub with-requires : goal.with-requires
with-requires c = search (rule_small, rule_in c.args.table.now _ c.requires.inside)

pub bounds-naming-x-in-loop-i : goal.bounds-naming-x-in-loop-i
bounds-naming-x-in-loop-i c = search (symbol_small, rule_ruled, position_inside, rule_in c.args.table.now _ c.requires.inside)

pub loop-i-preserved : goal.loop-i-preserved
loop-i-preserved c = (search rules, search named_turn)

pub returns : goal.returns
returns c = search (named_finish, rule_in c.args.table.now _ c.requires.inside)
