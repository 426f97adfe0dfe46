-- `planner::room` meets its contract: the rows are tested first, then the plan, and each test that fails is the first that does. Assumes nothing.
use Rattle.planner.proofs.RoomLaws.{rows_short, plan_short, both_long}
use borrow.Author.Rules.{rules}
use Rattle.planner.proofs.room.Goals as goal

pub returns-then-rows-rules : goal.returns-then-rows-rules
returns-then-rows-rules c = search (rows_short, rules)

pub returns-then-plan-rules : goal.returns-then-plan-rules
returns-then-plan-rules c = search (plan_short, rules)

pub returns : goal.returns
returns c = search (both_long, rules)
