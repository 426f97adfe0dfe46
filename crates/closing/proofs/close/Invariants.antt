-- The invariant: paths meet at each member that is no longer left.
use Rattle.closing.proofs.ClosureLaws.{Closing}
use Rattle.closing.proofs.close.Given as goal

abbrev pub invariant-loop-left : goal.invariant-loop-left
invariant-loop-left l = Closing l.initial.rows l.among l.left l.rows

abbrev pub decreases-loop-left : goal.decreases-loop-left
decreases-loop-left l = l.left
