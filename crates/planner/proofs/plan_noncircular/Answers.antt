-- `planner::plan_noncircular` meets its contract: a cycle that the search finds in EDP is 10, and without one the plan is written and accepted.
-- Assumes nothing.
use Rattle.planner.proofs.RoomLaws.{rows_room}
use Rattle.planner.proofs.StageLaws.{sets_are_law, few_rules, search_room, ten_came, ordered_ready, plan_came}
use Rattle.planner.proofs.plan_noncircular.Goals as goal

pub sets_of-sets-requires : goal.sets_of-sets-requires
sets_of-sets-requires c = c.args.table.now.accepted

pub extend-requires-clause-sets_value : goal.extend-requires-clause-sets_value
extend-requires-clause-sets_value c = search sets_are_law

pub extend-requires-clause-words_in_bounds : goal.extend-requires-clause-words_in_bounds
extend-requires-clause-words_in_bounds c = search rows_room

pub find_cycle-edp_cycle-requires : goal.find_cycle-edp_cycle-requires
find_cycle-edp_cycle-requires c = (search (few_rules, c.args.table.now.accepted), search search_room)

pub returns-in-Some : goal.returns-in-Some
returns-in-Some c = search ten_came

pub write_plan-requires : goal.write_plan-requires
write_plan-requires c = search (
  ordered_ready,
  c.requires,
  c.rules-rules.ensures.value,
  c.sets_of-sets.ensures,
  c.extend.ensures,
  c.find_cycle-edp_cycle.ensures,
)

pub returns : goal.returns
returns c = search (
  plan_came,
  c.args.table.now.accepted,
  c.requires,
  c.rules-rules.ensures.value,
  c.extend.ensures,
  c.find_cycle-edp_cycle.ensures,
  c.write_plan.ensures,
)
