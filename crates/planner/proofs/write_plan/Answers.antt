-- `planner::write_plan` meets its contract: after r turns the set words and the sequences of the first r rules are written. Assumes nothing.
use borrow.Author.Rules.{rules}
use Rattle.planner.proofs.WriteLaws.{write_room, by_symbols, by_few, plan_start, plan_rule, plan_near, plan_given, plan_fits, plan_turn, plan_finish, plan_kept}
use Rattle.planner.proofs.write_plan.Goals as goal

pub write-requires : goal.write-requires
write-requires c = search (write_room, rules)

pub by_visit-by-requires-clause-words_bound : goal.by_visit-by-requires-clause-words_bound
by_visit-by-requires-clause-words_bound c = search (by_symbols, c.args.table.now.accepted)

pub by_visit-by-requires-clause-few_visits : goal.by_visit-by-requires-clause-few_visits
by_visit-by-requires-clause-few_visits c = search by_few

pub loop-r-init : goal.loop-r-init
loop-r-init c = search plan_start

pub rule_at-requires : goal.rule_at-requires
rule_at-requires c = search (plan_rule, c.args.table.now.accepted)

pub invariant_of-rule : goal.invariant_of-rule
invariant_of-rule c =
    record { near = plan_near c.args.table.now _ _ _ c.rules-count.ensures.value c.loop-r-test.true c.rule_at.ensures }

pub sequence-requires-clause-rule_given : goal.sequence-requires-clause-rule_given
sequence-requires-clause-rule_given c = search (plan_given, c.args.table.now.accepted, c.args.table.now.placed, c.loop-r.invariant, c.by_visit-by.ensures, c.rules-count.ensures.value, c.loop-r-test.true, c.rule_at.ensures)

pub sequence-requires-clause-plan_room : goal.sequence-requires-clause-plan_room
sequence-requires-clause-plan_room c = search (plan_fits, c.loop-r.invariant)

pub loop-r-preserved : goal.loop-r-preserved
loop-r-preserved c = search (plan_turn, c.loop-r.invariant, c.rules-count.ensures.value, c.loop-r-test.true, c.sequence.ensures)

pub shape_of-plan : goal.shape_of-plan
shape_of-plan c = search plan_kept

pub returns : goal.returns
returns c = search plan_finish
