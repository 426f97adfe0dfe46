-- The rule gets DP and the arcs of its symbols, and hands on what its paths induce. Nobody else's rows change, so whoever is not touched stays as it was.
use borrow.Author.Rules.{rules}
use Rattle.access.proofs.TableLaws.{rule_in}
use Rattle.access.proofs.Accessors.{rule_small, rule_near, rule_shaped}
use Rattle.inducing.proofs.LentLaws.{rule_lent, rule_back}
use Rattle.inducing.proofs.RefreshLaws.{refresh_kept, refresh_arcs, opened_now}
use Rattle.inducing.proofs.RuleRowLaws.{rule_ruled, rule_functions_fit}
use Rattle.inducing.proofs.ids.open.Goals as goal

pub rule_at-requires : goal.rule_at-requires
rule_at-requires c = search (rule_small, rule_in c.args.table.now _ c.requires.inside)

pub invariant_of-rule : goal.invariant_of-rule
invariant_of-rule c = record { near = search (rule_near, rule_in c.args.table.now _ c.requires.inside) }

pub occurrences-requires : goal.occurrences-requires
occurrences-requires c = search (rule_shaped, rule_in c.args.table.now _ c.requires.inside)

pub open-requires-clause-ruled : goal.open-requires-clause-ruled
open-requires-clause-ruled c = search (rule_ruled, rule_in c.args.table.now _ c.requires.inside)

pub open-requires-clause-functions_fit : goal.open-requires-clause-functions_fit
open-requires-clause-functions_fit c = search (rule_functions_fit, rule_in c.args.table.now _ c.requires.inside)

pub open-requires-clause-arcs_fit : goal.open-requires-clause-arcs_fit
open-requires-clause-arcs_fit c = search (refresh_arcs, rule_in c.args.table.now _ c.requires.inside)

pub open-requires-clause-kept : goal.open-requires-clause-kept
open-requires-clause-kept c = search (refresh_kept, rule_lent, rule_in c.args.table.now _ c.requires.inside)

pub gather-requires : goal.gather-requires
gather-requires c = search (rule_ruled, rules, rule_in c.args.table.now _ c.requires.inside)

pub returns : goal.returns
returns c = search (opened_now, rule_lent, rule_back, rule_in c.args.table.now _ c.requires.inside)
