-- `planner::plan` meets its contract: what reading refuses is refused, and nothing is written. Assumes nothing.
use Rattle.planner.proofs.StageLaws.{refused_so, read_refused}
use Rattle.planner.proofs.plan.Goals as goal

pub returns-in_err-table : goal.returns-in_err-table
returns-in_err-table c =
    refused_so _ _ _ _ _ c.from_residual.ensures.1 (search (read_refused, c.in_err-table.ensures))
