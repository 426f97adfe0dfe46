-- `sequencing::unblocked` meets its contract. At every turn no path leads to the computes that seem ready from an occurrence that is done, and the
-- other computes are blocked. The measure is what is left of the waiting ones, as a number. Assumes nothing.
use Rattle.sequencing.proofs.BlockedLaws.{blocking_start, blocking_turn, blocking_none, blocking_less, blocking_finish}
use Rattle.sequencing.proofs.unblocked.Goals as goal

pub loop-left-init : goal.loop-left-init
loop-left-init c = search blocking_start

pub returns-then-ready-eq0 : goal.returns-then-ready-eq0
returns-then-ready-eq0 c = search blocking_none

pub loop-left-smaller : goal.loop-left-smaller
loop-left-smaller c = search blocking_less

pub loop-left-preserved : goal.loop-left-preserved
loop-left-preserved c = search blocking_turn

pub returns : goal.returns
returns c = search blocking_finish
