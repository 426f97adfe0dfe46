-- The arcs that lead down stand between occurrences of the rule, so they can be added at its positions.
use borrow.Author.Rules.{rules}
use Rattle.access.proofs.TableLaws.{rule_in}
use Rattle.access.proofs.Accessors.{rule_small, rule_near, rule_shaped}
use Rattle.inducing.proofs.LentLaws.{rule_lent, rule_fits, rule_back}
use Rattle.inducing.proofs.HoldsLaws.{kept_here}
use Rattle.inducing.proofs.RuleRowLaws.{rule_ruled}
use Rattle.extending.proofs.ExtendLaws.{down_fits, down_closes}
use Rattle.extending.proofs.extend_rule.Goals as goal

pub rule_at-requires : goal.rule_at-requires
rule_at-requires c = search (rule_small, rule_in c.args.table.now _ c.requires.inside)

pub invariant_of-rule : goal.invariant_of-rule
invariant_of-rule c = record { near = search (rule_near, rule_in c.args.table.now _ c.requires.inside) }

pub occurrences-requires : goal.occurrences-requires
occurrences-requires c = search (rule_shaped, rule_in c.args.table.now _ c.requires.inside)

pub unwrap-own-requires : goal.unwrap-own-requires
unwrap-own-requires c = search (c.first_chunk_mut.ensures.variant.1, rule_fits, rules)

pub spread-requires-clause-ruled : goal.spread-requires-clause-ruled
spread-requires-clause-ruled c = search (rule_ruled, rule_in c.args.table.now _ c.requires.inside)

pub spread-requires-clause-arcs_fit : goal.spread-requires-clause-arcs_fit
spread-requires-clause-arcs_fit c = search (down_fits, rule_in c.args.table.now _ c.requires.inside)

pub spread-requires-clause-kept : goal.spread-requires-clause-kept
spread-requires-clause-kept c = search (kept_here, rule_lent, rule_in c.args.table.now _ c.requires.inside)

pub returns : goal.returns
returns c = search (down_closes, rule_lent, rule_back, rule_in c.args.table.now _ c.requires.inside)
