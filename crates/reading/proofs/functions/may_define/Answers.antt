-- `reading::functions::may_define` meets its contract: a target that is no occurrence fails, and else the second set decides. Assumes nothing.
use Rattle.access.proofs.Laws.{and_first, and_second}
use Rattle.reading.proofs.functions.may_define.Goals as goal

pub returns-then-member : goal.returns-then-member
returns-then-member c = search and_second

pub returns-else-member : goal.returns-else-member
returns-else-member c = search and_first
