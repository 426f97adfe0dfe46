-- `executing::locate_rule` meets its contract. The invariant Locating: the functions before k are noted at their targets, the next starts at f, and the
-- words of the rules before stay. Targets of one rule differ, so none is written over. Assumes nothing.
use borrow.Author.Rules.{rules}
use Rattle.executing.proofs.LocatedLaws.{rule_few, start_is, rule_starts, locating_start, target_small_law, locating_turn, locating_finish}
use Rattle.executing.proofs.locate_rule.Goals as goal

pub rule_at-requires : goal.rule_at-requires
rule_at-requires c = search rule_few

pub invariant_of-rule : goal.invariant_of-rule
invariant_of-rule c = record { near = search (rule_starts, start_is) }

pub loop-k-init : goal.loop-k-init
loop-k-init c = search (locating_start, start_is)

pub note-requires : goal.note-requires
note-requires c = (search rules, (search target_small_law, search rules))

pub loop-k-preserved : goal.loop-k-preserved
loop-k-preserved c = search locating_turn

pub returns : goal.returns
returns c = search locating_finish
