-- `planner::write_plan` meets its contract: after r turns the set words and the sequences of the first r rules are written. Assumes nothing.
use Rattle.planner.proofs.WriteLaws.{PlanTo}
use Rattle.planner.proofs.write_plan.Given as goal

abbrev pub invariant-loop-r : goal.invariant-loop-r
invariant-loop-r l = PlanTo l.words l.sets l.rows l.initial.plan l.plan l.r
