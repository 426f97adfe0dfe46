-- The rule gets the arcs of its symbols and hands on what its paths induce. Nobody else's rows change, so whoever is not touched stays as it was.
use borrow.Author.Rules.{rules}
use Rattle.access.proofs.TableLaws.{rule_in}
use Rattle.access.proofs.Accessors.{rule_small, rule_near, rule_shaped}
use Rattle.inducing.proofs.LentLaws.{rule_lent, rule_back}
use Rattle.inducing.proofs.RefreshLaws.{refresh_kept, refresh_arcs, refreshed}
use Rattle.inducing.proofs.RuleRowLaws.{rule_ruled}
use Rattle.inducing.proofs.ids.refresh.Goals as goal

pub rule_at-requires : goal.rule_at-requires
rule_at-requires c = search (rule_small, rule_in c.args.table.now _ c.requires.inside)

pub invariant_of-rule : goal.invariant_of-rule
invariant_of-rule c = record { near = search (rule_near, rule_in c.args.table.now _ c.requires.inside) }

pub occurrences-requires : goal.occurrences-requires
occurrences-requires c = search (rule_shaped, rule_in c.args.table.now _ c.requires.inside)

pub spread-requires : goal.spread-requires
spread-requires c = search (rule_ruled, refresh_arcs, refresh_kept, rule_lent, rules, rule_in c.args.table.now _ c.requires.inside)

pub gather-requires : goal.gather-requires
gather-requires c = search (rule_ruled, rules, rule_in c.args.table.now _ c.requires.inside)

pub returns : goal.returns
returns c = search (refreshed, rule_lent, rule_back, rule_in c.args.table.now _ c.requires.inside)
