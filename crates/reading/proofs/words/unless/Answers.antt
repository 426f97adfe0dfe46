-- `reading::words::unless` meets its contract: the test decides. Assumes nothing.
use Rattle.access.proofs.Laws.{unless_true, unless_false}
use Rattle.reading.proofs.words.unless.Goals as goal

pub returns-then-test : goal.returns-then-test
returns-then-test c = search unless_true

pub returns-else-test : goal.returns-else-test
returns-else-test c = search unless_false
