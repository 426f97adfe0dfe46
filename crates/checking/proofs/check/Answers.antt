-- `checking::check` meets its contract: where the one walk is sure it has seen 13 to 17, and else the walks of their own answer. Assumes nothing.
use Rattle.checking.proofs.WholeCheckLaws.{some_node, few_nodes, fits_true, answer_12, answer_lost, answer_whole}
use borrow.Author.Tests.{not-false}
use borrow.Author.Rules.{rules}
use Rattle.checking.proofs.check.Goals as goal

pub returns-then-not-size_fits : goal.returns-then-not-size_fits
returns-then-not-size_fits c = search answer_12

pub first_orphan-requires : goal.first_orphan-requires
first_orphan-requires c = (search rules, (search (some_node, fits_true, not-false), search (few_nodes, fits_true, not-false)))

pub values_fault-requires : goal.values_fault-requires
values_fault-requires c = search (few_nodes, fits_true, not-false)

pub returns-in-Ok-None : goal.returns-in-Ok-None
returns-in-Ok-None c = search (answer_whole, fits_true, not-false, c.in-Ok-None.ensures)

pub returns-in-Ok-Some : goal.returns-in-Ok-Some
returns-in-Ok-Some c = search (answer_lost, fits_true, not-false, c.in-Ok-Some.ensures)
