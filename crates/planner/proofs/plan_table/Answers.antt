-- `planner::plan_table` meets its contract: 8 answers where it applies, and else what the relations come to. Assumes nothing.
use Rattle.planner.proofs.StageLaws.{refused_so, room_refused, space_there, relations_answered}
use Rattle.planner.proofs.plan_table.Goals as goal

pub returns-in_err-room : goal.returns-in_err-room
returns-in_err-room c =
    refused_so _ _ _ _ _ c.from_residual.ensures.1 (search (room_refused, c.args.table.now.accepted, c.in_err-room.ensures))

pub plan_relations-requires : goal.plan_relations-requires
plan_relations-requires c = search (space_there, c.in_ok-room.was)

pub returns : goal.returns
returns c = search (relations_answered, c.args.table.now.accepted, c.in_ok-room.was)
