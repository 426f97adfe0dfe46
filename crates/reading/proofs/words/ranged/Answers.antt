-- `reading::words::ranged` meets its contract: a missing word answers first, else the test does. Assumes nothing.
use Rattle.grammar.specs.Reading.{ranged}
use Rattle.grammar.proofs.VerdictLaws.{handed}
use Rattle.access.proofs.Laws.{stops, passes}
use Rattle.reading.proofs.words.ranged.Goals as goal

pub returns-in_err-present : goal.returns-in_err-present
unfolding ranged
returns-in_err-present c = search (handed, stops, c.in_err-present.was, c.from_residual.ensures.1)

pub returns : goal.returns
unfolding ranged
returns c = search (passes, c.in_ok-present.was)
