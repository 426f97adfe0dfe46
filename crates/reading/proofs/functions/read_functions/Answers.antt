-- `reading::functions::read_functions` meets its contract. The invariant AtFunction: so many functions passed, the next starts at f, and the set
-- holds what they left undefined. A target that passed is an occurrence, so it is below 64 and can leave the set. Assumes nothing.
use Rattle.reading.proofs.FunctionLoop.{start, turn, stop, ends, target_there, target_fits}
use borrow.Author.Rules.{rules}
use Rattle.reading.proofs.functions.read_functions.Goals as goal

pub loop-init : goal.loop-init
loop-init c = search start

pub returns-in_err-size : goal.returns-in_err-size
returns-in_err-size c = search (stop, c.in_err-size.ensures, c.from_residual.ensures.1)

pub known-requires : goal.known-requires
known-requires c = search (target_there, c.in_ok-size.ensures)

pub without-undefined-requires : goal.without-undefined-requires
without-undefined-requires c = search (target_fits, rules, c.in_ok-size.ensures)

pub loop-preserved : goal.loop-preserved
loop-preserved c = search (turn, c.in_ok-size.ensures)

pub returns : goal.returns
returns c = search ends
