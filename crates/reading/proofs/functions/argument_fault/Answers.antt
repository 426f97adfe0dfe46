-- `reading::functions::argument_fault` meets its contract: a missing word answers before the test of what it holds. Assumes nothing.
use Rattle.access.specs.ByPlace.{argument_from}
use Rattle.grammar.proofs.VerdictLaws.{handed}
use Rattle.access.proofs.Laws.{stops, passes, unless_of, fits_of}
use Rattle.reading.proofs.functions.argument_fault.Goals as goal

pub returns-in_err-present : goal.returns-in_err-present
unfolding argument_from
returns-in_err-present c = search (handed, stops, c.in_err-present.was, c.from_residual.ensures.1)

pub returns : goal.returns
unfolding argument_from
returns c = search (passes, unless_of, fits_of, c.in_ok-present.was) depth 7
