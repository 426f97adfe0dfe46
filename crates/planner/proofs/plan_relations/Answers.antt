-- `planner::plan_relations` meets its contract: a cycle that the search finds in IDP is 9, and without one what follows is what comes after 9.
-- Assumes nothing.
use Rattle.planner.proofs.RoomLaws.{rows_room}
use Rattle.planner.proofs.StageLaws.{few_rules, search_room, nine_came, noncircular, noncircular_came}
use Rattle.planner.proofs.plan_relations.Goals as goal

pub induce-ids-requires : goal.induce-ids-requires
induce-ids-requires c = search rows_room

pub find_cycle-idp_cycle-requires : goal.find_cycle-idp_cycle-requires
find_cycle-idp_cycle-requires c = (search (few_rules, c.args.table.now.accepted), search search_room)

pub returns-in-Some : goal.returns-in-Some
returns-in-Some c = search nine_came

pub plan_noncircular-requires : goal.plan_noncircular-requires
plan_noncircular-requires c = search (
  noncircular,
  c.requires,
  c.induce-ids.ensures.value,
  c.induce-ids.ensures.rows_after,
  c.rules.ensures.value,
  c.find_cycle-idp_cycle.ensures,
)

pub returns : goal.returns
returns c = search noncircular_came
