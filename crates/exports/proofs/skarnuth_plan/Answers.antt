-- `exports::skarnuth_plan` meets its contract: it tells what `plan` answered. Assumes nothing.
use Rattle.exports.proofs.TellLaws.{plan_accepted, plan_refused}
use Rattle.exports.proofs.skarnuth_plan.Goals as goal

pub returns-in-Ok : goal.returns-in-Ok
returns-in-Ok c = search plan_accepted

pub returns-in-Err : goal.returns-in-Err
returns-in-Err c = search plan_refused
