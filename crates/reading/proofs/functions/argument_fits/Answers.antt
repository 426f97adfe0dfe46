-- `reading::functions::argument_fits` meets its contract: a constant passes, and else the set decides. Assumes nothing.
use Rattle.access.proofs.Laws.{or_first, or_second}
use Rattle.reading.proofs.functions.argument_fits.Goals as goal

pub returns-then-constant : goal.returns-then-constant
returns-then-constant c = search or_first

pub returns-else-constant : goal.returns-else-constant
returns-else-constant c = search or_second
