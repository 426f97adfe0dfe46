-- The invariant: the first x symbols have their set words, and all other words are 0.
use Rattle.placing.proofs.SetsLaws.{SetsTo}
use Rattle.placing.proofs.sets_of.Given as goal

abbrev pub invariant-loop-x : goal.invariant-loop-x
invariant-loop-x l = SetsTo l.words l.ids l.sets l.x
