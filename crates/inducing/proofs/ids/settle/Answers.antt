-- The invariant: every rule that is not stale is fresh. Each turn finds a new arc or makes one stale rule fresh and none stale, so there is less to do; and where no rule is stale, all are fresh.
use borrow.Author.Rules.{rules}
use Rattle.inducing.proofs.StaleLaws.{chosen_rule, stale_less, stale_turn, stale_end}
use Rattle.inducing.proofs.ids.settle.Goals as goal

pub refresh-touched-requires : goal.refresh-touched-requires
refresh-touched-requires c = search (chosen_rule, rules)

pub loop-stale-smaller : goal.loop-stale-smaller
loop-stale-smaller c = search (stale_less, rules)

pub loop-stale-preserved : goal.loop-stale-preserved
loop-stale-preserved c = (search rules, search stale_turn)

pub returns : goal.returns
returns c = search stale_end
