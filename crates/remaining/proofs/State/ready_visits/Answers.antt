-- `remaining::ready_visits` meets its contract. At every turn nothing is lacking at the children of the visits that seem ready but for what is left;
-- the measure is what is left of it, as a number. Assumes nothing.
use Rattle.remaining.proofs.VisitSetLaws.{clearing_start, clearing_turn, clearing_less, clearing_finish}
use Rattle.remaining.proofs.State.ready_visits.Goals as goal

pub loop-left-init : goal.loop-left-init
loop-left-init c = search clearing_start

pub loop-left-smaller : goal.loop-left-smaller
loop-left-smaller c = search clearing_less

pub loop-left-preserved : goal.loop-left-preserved
loop-left-preserved c = search clearing_turn

pub returns : goal.returns
returns c = search clearing_finish
