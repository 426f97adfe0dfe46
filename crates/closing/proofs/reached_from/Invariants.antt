-- The invariant: the members of the set are there, and all that those lead to which are no longer left.
use Rattle.closing.proofs.ReachLaws.{Reaching}
use Rattle.closing.proofs.reached_from.Given as goal

abbrev pub invariant-loop-b : goal.invariant-loop-b
invariant-loop-b l = Reaching l.rows l.set l.reached l.b-iterator.left
