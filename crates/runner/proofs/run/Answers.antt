-- `runner::run` meets its contract: what reading or planning refuses is refused, and where planning accepts, what it wrote is a sound plan to run.
-- Assumes nothing.
use Rattle.runner.proofs.WholeRunLaws.{read_refused, runnable, refused_so, ran_so}
use Rattle.runner.proofs.run.Goals as goal

pub returns-in_err-table : goal.returns-in_err-table
returns-in_err-table c = search (read_refused, c.in_err-table.ensures, c.from_residual.ensures.1)

pub returns-in_err-plan_table : goal.returns-in_err-plan_table
returns-in_err-plan_table c =
    search (refused_so, c.in_ok-table.ensures.1, c.in_err-plan_table.was, c.from_residual-in_err-plan_table.ensures.1)

pub run_sound-requires : goal.run_sound-requires
run_sound-requires c = search (runnable, c.in_ok-plan_table.was)

pub returns : goal.returns
returns c = search (ran_so, c.in_ok-table.ensures.1, c.in_ok-plan_table.was)
