-- `reading::words::between` meets its contract: the first test decides, or the second does. Assumes nothing.
use mathlib.Core.Path.{refl}
use borrow.Author.Tests.{le-leb, lt-leb}
use Rattle.access.proofs.Laws.{and_first, and_second}
use Rattle.reading.proofs.words.between.Goals as goal

pub returns-then-low-x : goal.returns-then-low-x
returns-then-low-x c = and_second _ _ _ _ refl (le-leb c.args.low c.args.x c.if-low-x.true) refl

pub returns-else-low-x : goal.returns-else-low-x
returns-else-low-x c = and_first _ _ _ refl (lt-leb c.args.low c.args.x c.if-low-x.false)
