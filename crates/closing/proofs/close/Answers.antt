-- The invariant: paths meet at each member that is no longer left.
use borrow.Author.Rules.{rules}
use Rattle.closing.proofs.ClosureLaws.{closing_start, closing_step, closing_finish, of_four, some_here, fewer_left}
use Rattle.closing.proofs.close.Goals as goal

pub loop-left-init : goal.loop-left-init
loop-left-init c = search closing_start

pub step-requires-clause-bounds : goal.step-requires-clause-bounds
step-requires-clause-bounds c = (search rules, (search rules, search some_here))

pub step-requires-clause-of_four : goal.step-requires-clause-of_four
step-requires-clause-of_four c = search of_four

pub loop-left-smaller : goal.loop-left-smaller
loop-left-smaller c = search fewer_left

pub loop-left-preserved : goal.loop-left-preserved
loop-left-preserved c = search closing_step

pub returns : goal.returns
returns c = search closing_finish
