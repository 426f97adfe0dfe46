-- `checking::one_walk::unused_empty` meets its contract: the invariant SumTo says that the sum is zero exactly where each slot that was added is.
-- Assumes nothing.
use Rattle.checking.proofs.OneWalkLaws.{sum_start, sum_turn, sum_end}
use Rattle.checking.proofs.one_walk.unused_empty.Goals as goal

pub loop-i-init : goal.loop-i-init
loop-i-init c = search sum_start

pub loop-i-preserved : goal.loop-i-preserved
loop-i-preserved c = search sum_turn

pub returns : goal.returns
returns c = search sum_end
