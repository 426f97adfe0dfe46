-- `runner::run_sound` meets its contract: a tree that the check refuses leaves the values, and one that it accepts is run. Assumes nothing.
use Rattle.runner.proofs.WholeRunLaws.{tree_good, tree_refused, tree_ran}
use Rattle.runner.proofs.run_sound.Goals as goal

pub returns-in_err-check : goal.returns-in_err-check
returns-in_err-check c = search (tree_refused, c.in_err-check.ensures, c.from_residual.ensures.1)

pub execute-ran-requires-clause-values_value : goal.execute-ran-requires-clause-values_value
execute-ran-requires-clause-values_value c = search (tree_good, c.in_ok-check.was)

pub returns : goal.returns
returns c = search (tree_ran, c.in_ok-check.was)
