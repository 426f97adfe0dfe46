-- `sequencing::unblocked` meets its contract. At every turn no path leads to the computes that seem ready from an occurrence that is done, and the
-- other computes are blocked. The measure is what is left of the waiting ones, as a number. Assumes nothing.
use Rattle.sequencing.proofs.BlockedLaws.{Blocking}
use Rattle.sequencing.proofs.unblocked.Given as goal

abbrev pub invariant-loop-left : goal.invariant-loop-left
invariant-loop-left l = Blocking l.rows l.base l.waiting l.computes l.left l.ready

abbrev pub decreases-loop-left : goal.decreases-loop-left
decreases-loop-left l = l.left
