-- `remaining::ready_visits` meets its contract. At every turn nothing is lacking at the children of the visits that seem ready but for what is left;
-- the measure is what is left of it, as a number. Assumes nothing.
use Rattle.bits.specs.Bit.{common}
use Rattle.remaining.proofs.VisitSetLaws.{Clearing}
use Rattle.remaining.proofs.State.ready_visits.Given as goal

abbrev pub invariant-loop-left : goal.invariant-loop-left
invariant-loop-left l = Clearing l.fn.self.visits (common l.fn.self.wanted l.fn.self.waiting) l.ready l.left

abbrev pub decreases-loop-left : goal.decreases-loop-left
decreases-loop-left l = l.left
