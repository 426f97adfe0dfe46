-- The invariant: the first r rules have DP, and each of them that is not stale is fresh. Each turn takes up one more.
use borrow.Author.Rules.{rules}
use Rattle.access.proofs.Accessors.{rule_of}
use Rattle.inducing.proofs.StaleLaws.{rule_places, opening_start, opening_turn, opening_finish}
use Rattle.inducing.proofs.ids.open_rules.Goals as goal

pub loop-r-init : goal.loop-r-init
loop-r-init c = (search rules, search opening_start)

pub open-touched-requires : goal.open-touched-requires
open-touched-requires c = search (rule_of, rules)

pub still_stale-stale-requires : goal.still_stale-stale-requires
still_stale-stale-requires c = search rule_places

pub loop-r-preserved : goal.loop-r-preserved
loop-r-preserved c = (search rules, search opening_turn)

pub returns : goal.returns
returns c = search opening_finish
